-- A run of commands, one after another.
use Rattle.std.proofs.Common.{◌≡◌, ◌≢◌, ◌∙◌, ◌⊎◌, inl, inr, false, ◌<◌, ◌≤◌, ◌+◌, ℕ, IfSome, IsTrue, List, [], ◌∷◌, ◌++◌, Ok, Err, None, Option, Result, Some, length, map, append_assoc, append-nil, length-append, refl, sym, ap, subst, arith}
use Rattle.std.specs.Prelude.{⊤}
use Rattle.std.proofs.KnownBytes.{Appends-nil, Appends-trans}
use Rattle.std.proofs.lemmas.Bool.{cases_Bool, true≢false}
use Rattle.std.specs.Io.KnownBytes.{Appends}
use Rattle.std.specs.List.{AllByRecursion}
use Rattle.std.specs.Result.{result_ok}
use Rattle.sqlite.proofs.StateLemmas.{survives_then, survives_weaker}
use Rattle.sqlite.specs.Effect.{Database}
use Rattle.sqlite.specs.State.{HasCleanDisk, State, Survives}
use Rattle.sqlite.specs.Tree.{Trees}
use Rattle.sqlite_keyed.proofs.ListLemmas.{all-append}
use Rattle.lot_command.specs.declared.command.Command.{Command}
use Rattle.lot_command.specs.declared.key.Key.{Key}
use Rattle.lot_book.specs.Facts.{Entry}
use Rattle.lot_book.specs.Judged.{JudgesAll, JudgesOn}
use Rattle.lot_book.specs.Touched.{pairs_in}
use Rattle.lot_book.specs.declared.verdict.Verdict.{Verdict}
use Rattle.lot_book.specs.declared.verdict.Verdict.TheVariants.{Accepted, Refused, Repeated}
use Rattle.lot_laws.proofs.JudgedLaws.{judges_more}
use Rattle.lot_load.specs.Kept.{IsOf}
use Rattle.lot_load.specs.Paired.{HaveAllPaired, HavePairedFor, whole_pairs}
use Rattle.lot_load.specs.declared.kept.Kept.{Kept as Known}
use Rattle.lot_stored.specs.StandFor.{Left, Stands}
use Rattle.lot_report.proofs.ReplyLemmas.{replies_more}
use Rattle.lot_report.specs.Printed.{replies, reply}
use Rattle.lot_report.specs.Written.{IsPrefixOf, WritesLine}
use Rattle.lot_report.specs.declared.line.PrintFault.{PrintFault}
use Rattle.lot_report.specs.declared.line.PrintFault.TheVariants.{Write, Memory as Unwritten}
use Rattle.lot_rows.specs.Tables.{Has, Tables, layout}
use Rattle.lot_table.specs.Book.{Holds}
use Rattle.lot_table.specs.Statement.{DiskFailed}
use Rattle.lot_store.specs.Apply.{AppliesWith, FailsFor, HasNoRoomFor, MayAdd, StandsWith, condition_after, ready_of}
use Rattle.lot_store.specs.ByText.{AnswersByText, AnswersFirst, EndsByText, EndsUnpaired, HasTurned, IsByText, MeetsUnpairedFirst, RunsByText, TurnAllByText}
use Rattle.lot_store.specs.Run.{AppendsSome, EndsBehind, FlushesLine, HasNoRoomForNext, IsConditionAfter, LeavesAfter, LeavesAtAnswer, LeavesAtFault, LeavesAtVerdict, RepliesTo, RunsSession, StopsWith, Writes, WritesEnd, WritesOut, answer_line, count_refused, fault_line}
use Rattle.lot_store.specs.Session.{LeavesEntry, LeavesFirst, LeavesJudged, LeavesNext, LeavesStopped, Session}
use Rattle.lot_store.specs.Turned.{AreLeft, AreTurned, AreTurnedOn, IsLastTurned, IsTurned, RunsTurned, handed, is_judged}
use Rattle.lot_rounding.specs.declared.asked.Asked.{Asked}
use Rattle.lot_rounding.specs.declared.rounding.Rounding.{Rounding}
use Rattle.lot_store.specs.declared.book.Condition.{Condition}
use Rattle.lot_store.specs.declared.book.Condition.TheVariants.{NeedsReopen as MustReopen, Ready}
use Rattle.lot_store.specs.declared.fault.StoreFault.{StoreFault}
use Rattle.lot_store.specs.declared.fault.StoreFault.TheVariants.{Damaged, Device, InDoubt, Memory, NeedsReopen}
use Rattle.lot_store.specs.declared.run.Ending.{Ending}
use Rattle.lot_store.specs.declared.run.Ending.TheVariants.{Complete, Output, Stopped}
use Rattle.lot_store.specs.declared.run.RunEnd.{RunEnd}
use Rattle.lot_store.proofs.ApplyLemmas.{stands_along}
use Rattle.lot_store.proofs.ByTextLemmas.{leaves_by_text, turn_more}
use Rattle.lot_store.proofs.DamageLemmas.{of_damage_since}
use Rattle.lot_store.proofs.PairedLemmas.{all_before, paired_before}
use Rattle.lot_rows.proofs.StateLemmas.{survives_same}

-- ---- one line

-- a line that isn't written out
pub line_cut : (printed : Result (Unit {0}) PrintFault) (old mid new : Option (List ℕ)) (text : List ℕ) (ending : Ending) → WritesLine old mid printed text
    → FlushesLine printed mid new (Err ending) → (ending ≡ Output) × AppendsSome old new text
line_cut (Ok done) old mid new text ending written (is, flushed) =
    (is, (text, ([], sym (append-nil text)), subst (Appends old new) (append-nil text) (Appends-trans old mid new text [] written flushed)))
line_cut (Err Write) old mid new text ending (prefix, (byte, rest, whole), written) (is, flushed) =
    (is, (prefix, (byte ∷ rest, whole), subst (Appends old new) (append-nil prefix) (Appends-trans old mid new prefix [] written flushed)))
line_cut (Err Unwritten) old mid new text ending written (is, flushed) = (is, ([], (text, refl), Appends-trans old mid new [] [] written flushed))

module _ (kept kept_then : Option Known) (key : Key) (command : Command) (number : ℕ) (old new : State) (before written : Option (List ℕ)) (condition : Condition)
    (answer : Result Verdict StoreFault) (applies : AppliesWith (IsOf kept) (IsOf kept_then) key command old new answer) (fails : FailsFor kept key command old new answer)
    (by_text : IsByText key command old new answer) (after : condition ≡ condition_after answer) (ending : Ending) where
  -- the reply isn't written out
  pub reply_cut : (verdict : Verdict) → answer ≡ Ok verdict → WritesOut before written (reply number verdict) (Err ending)
      → RepliesTo kept kept_then key command number old new before written condition (Err ending)
  reply_cut verdict is (cut, part) = (
    answer,
    applies,
    fails,
    by_text,
    (λ spent. let none : Err NeedsReopen ≡ Ok verdict = sym spent ∙ is in absurd cc),
    after,
    inr (cut, subst (λ (a : Result Verdict StoreFault). AppendsSome before written (answer_line number a)) (sym is) part),
  )

  -- it stops at a fault
  pub reply_stops : (fault : StoreFault) → answer ≡ Err fault → (answer ≢ Err NeedsReopen) → StopsWith number fault before written ending
      → RepliesTo kept kept_then key command number old new before written condition (Err ending)
  reply_stops fault is usable (inl (stopped, printed)) = (answer, applies, fails, by_text, usable, after, inl (fault, is, stopped, printed))
  reply_stops fault is usable (inr (cut, part)) =
      (answer, applies, fails, by_text, usable, after, inr (cut, subst (λ (a : Result Verdict StoreFault). AppendsSome before written (answer_line number a)) (sym (is)) part))

pub ready_fault : (condition : Condition) (fault : StoreFault) → ready_of condition ≡ Err fault → fault ≡ NeedsReopen
ready_fault Ready fault is = absurd cc
ready_fault MustReopen fault is = cc

pub spent_if : (condition : Condition) (fault : StoreFault) → ready_of condition ≡ Err fault → condition ≡ MustReopen
spent_if Ready fault is = absurd cc
spent_if MustReopen fault is = refl

pub ready_ok : {x : Unit {0}} (condition : Condition) → ready_of condition ≡ Ok x → condition ≡ Ready
ready_ok Ready is = refl
ready_ok MustReopen is = absurd cc

-- a book that could be used doesn't stop since it needs reopening
pub reply_usable : (kept kept_then : Option Known) (key : Key) (command : Command) (number : ℕ) (old new : State) (before written : Option (List ℕ)) (condition : Condition) (ending : Ending)
    → RepliesTo kept kept_then key command number old new before written condition (Err ending) → ending ≢ Stopped NeedsReopen
reply_usable kept kept_then key command number old new before written condition ending (answer, applies, fails, by_text, usable, after, inl (fault, same, stopped, printed)) is =
    let both : Stopped fault ≡ Stopped NeedsReopen = sym stopped ∙ is in
    let equal : fault ≡ NeedsReopen = cc in
    usable (same ∙ ap Err equal)
reply_usable kept kept_then key command number old new before written condition ending (answer, applies, fails, by_text, usable, after, inr (cut, part)) is =
    let both : Output ≡ Stopped NeedsReopen = sym cut ∙ is in absurd cc

-- ---- one command more

refused_more : (verdicts : List Verdict) (verdict : Verdict) → count_refused (verdicts ++ verdict ∷ []) ≡ count_refused verdicts + count_refused (verdict ∷ [])
refused_more [] verdict = omega arith
refused_more (Accepted ∷ verdicts) verdict = refused_more verdicts verdict
refused_more (Repeated ∷ verdicts) verdict = refused_more verdicts verdict
refused_more (Refused refusal ∷ verdicts) verdict = omega (arith, refused_more verdicts verdict)

pub few_refused : (verdicts : List Verdict) → count_refused verdicts ≤ length verdicts
few_refused [] = omega arith
few_refused (Accepted ∷ verdicts) = omega (arith, few_refused verdicts)
few_refused (Repeated ∷ verdicts) = omega (arith, few_refused verdicts)
few_refused (Refused refusal ∷ verdicts) = omega (arith, few_refused verdicts)

-- ---- a run so far

-- Commands were judged in the place of the first of those that were handed in, and replied to. This is kept then, and `Next`
-- tells what else is known of the book.
pub record SoFar (kept : Option Known) (Next : List Entry → Type 0) (rounding : Option Rounding) (asked : List (Key × Asked)) (done : List (Key × Command))
    (from refused : ℕ) (old now : State) (before written : Option (List ℕ)) : Type 0 where
  pub verdicts : List Verdict
  pub counted : length done ≡ length verdicts
  pub refusals : refused ≡ count_refused verdicts
  pub lines : Appends before written (replies from verdicts)
  pub judged : HasCleanDisk now → (entries : List Entry) → Stands old entries
      → (book : List Entry) × AreTurnedOn rounding entries asked done verdicts book × StandsWith (IsOf kept) now book
      × ((trees : Trees) → now.may_leave trees → LeavesJudged old.may_leave verdicts book trees) × Next book
  -- only a database that was shut before is shut now
  pub shut : HasCleanDisk now → now.is_open ≡ false → old.is_open ≡ false
  pub crash : Survives old now (λ trees. (entries : List Entry) → Stands old entries → LeavesFirst entries done trees)
  -- the tables that they leave of others, whatever these stand for
  pub turned : HasCleanDisk now → (tables : Tables) → Has old tables
      → (after : Tables) × TurnAllByText tables done verdicts after × Has now after
  -- the pairs that they post to had the same lots in both tables, and so had those of which all is known now
  pub paired : HasCleanDisk now → (tables : Tables) → Has old tables
      → AllByRecursion (λ (keyed : Key × Command). HavePairedFor keyed.1 tables) done × HaveAllPaired (whole_pairs kept) tables

-- nothing else is known of it
abbrev pub Any : List Entry → Type 0
Any book = ⊤

-- before the first nothing is kept
pub so_far_none : (rounding : Option Rounding) (from : ℕ) (old : State) (before : Option (List ℕ))
    → SoFar None Any rounding [] [] from 0 old old before before
so_far_none rounding from old before = record {
  verdicts = [];
  counted = refl;
  refusals = refl;
  lines = Appends-nil _;
  judged = λ clean entries stands. (entries, refl, (stands, tt), (λ trees may. inr (refl, may)), tt);
  shut = λ clean is. is;
  crash = survives_same old _;
  turned = λ clean tables has. (tables, refl, has);
  paired = λ clean tables has. (tt, tt);
}

-- ---- what was judged in the place of what was handed in

pub turns_judge : (rounding : Option Rounding) (before : List Entry) (asked : List (Key × Asked)) (done : List (Key × Command)) (verdicts : List Verdict) (after : List Entry)
    → AreTurnedOn rounding before asked done verdicts after → JudgesAll before done verdicts after
turns_judge rounding before [] [] [] after is = is
turns_judge rounding before [] [] (v ∷ vs) after is = absurd is
turns_judge rounding before [] (t ∷ ts) vs after is = absurd is
turns_judge rounding before (a ∷ as_) [] vs after is = absurd is
turns_judge rounding before (a ∷ as_) (t ∷ ts) [] after is = absurd is
turns_judge rounding before (a ∷ as_) (t ∷ ts) (v ∷ vs) after (turned, mid, judges, rest) =
    (mid, judges, turns_judge rounding mid as_ ts vs after rest)

pub turns_more : (rounding : Option Rounding) (before : List Entry) (asked : List (Key × Asked)) (done : List (Key × Command)) (verdicts : List Verdict) (book after : List Entry)
    (next : Key × Asked) (turned : Key × Command) (verdict : Verdict) → AreTurnedOn rounding before asked done verdicts book
    → IsTurned rounding book next turned → JudgesOn book turned.0 turned.1 verdict after
    → AreTurnedOn rounding before (asked ++ next ∷ []) (done ++ turned ∷ []) (verdicts ++ verdict ∷ []) after
turns_more rounding before [] [] [] book after next turned verdict is one judges =
    subst (λ (b : List Entry). AreTurnedOn rounding b (next ∷ []) (turned ∷ []) (verdict ∷ []) after) is (one, after, judges, refl)
turns_more rounding before [] [] (v ∷ vs) book after next turned verdict is one judges = absurd is
turns_more rounding before [] (t ∷ ts) vs book after next turned verdict is one judges = absurd is
turns_more rounding before (a ∷ as_) [] vs book after next turned verdict is one judges = absurd is
turns_more rounding before (a ∷ as_) (t ∷ ts) [] book after next turned verdict is one judges = absurd is
turns_more rounding before (a ∷ as_) (t ∷ ts) (v ∷ vs) book after next turned verdict (first, mid, on, rest) one judges =
    (first, mid, on, turns_more rounding mid as_ ts vs book after next turned verdict rest one judges)

-- what a crash leaves of the first commands it leaves of more
first_more : (entries : List Entry) (commands more : List (Key × Command)) (trees : Trees) → LeavesFirst entries commands trees → LeavesFirst entries (commands ++ more) trees
first_more entries commands more trees (verdicts, book, left, on, leaves) = (
  verdicts,
  book,
  left ++ more,
  record { done = on.done; split = ap (λ (cs : List (Key × Command)). cs ++ more) on.split ∙ append_assoc on.done left more; judged = on.judged },
  leaves,
)

-- what is committed is left
left_of : (s : State) (book : List Entry) (trees : Trees) → Stands s book → s.committed ≡ s.now → trees ≡ s.committed.trees → Left trees book
left_of s book trees stands settled is = record {
  book = stands.book;
  tables = stands.tables;
  holds = subst (λ t. Holds layout t stands.tables) (sym (is ∙ ap (λ (db : Database). db.trees) settled)) stands.has.1;
  stand = stands.stand;
}

-- an open database may leave what stands in it alone
abbrev pub LeavesWhatStands : State → Type 0
LeavesWhatStands s = HasCleanDisk s → IsTrue s.is_open → (entries : List Entry) → Stands s entries → (trees : Trees) → s.may_leave trees → Left trees entries

pub leaves_what_stands : (s : State) → (HasCleanDisk s → IsTrue s.is_open → s.now ≡ s.committed) → (IsTrue s.is_open → (trees : Trees) → s.may_leave trees → trees ≡ s.committed.trees)
    → LeavesWhatStands s
leaves_what_stands s settled safe clean opened entries stands trees may = left_of s entries trees stands (sym (settled clean opened)) (safe opened trees may)

-- ---- what a stop leaves

module _ (entries : List Entry) (commands : List (Key × Command)) (verdicts : List Verdict) (book : List Entry) where
  -- one command more was judged
  session_more : (next : Key × Command) (left : List (Key × Command)) (verdict : Verdict) (after : List Entry) → Session entries commands verdicts book (next ∷ left)
      → JudgesOn book next.0 next.1 verdict after → Session entries commands (verdicts ++ verdict ∷ []) after left
  session_more next left verdict after on judges = record {
    done = on.done ++ next ∷ [];
    split = on.split ∙ sym (append_assoc on.done (next ∷ []) left);
    judged = judges_more entries on.done verdicts book after next verdict on.judged judges;
  }

  module _ (old new : State) (could : (trees : Trees) → old.may_leave trees → Left trees entries) where
    judged_stops : (left : List (Key × Command)) → Session entries commands verdicts book left → (trees : Trees) → LeavesJudged old.may_leave verdicts book trees
        → LeavesStopped entries commands verdicts trees
    judged_stops left on trees (inl there) = (book, inl (left, on), there)
    judged_stops left on trees (inr (none, may)) = (
      entries,
      inl (commands, record { done = []; split = refl; judged = subst (λ (vs : List Verdict). JudgesAll entries [] vs entries) (sym none) refl }),
      could trees may,
    )

    next_stops : (left : List (Key × Command)) → Session entries commands verdicts book left → (trees : Trees) → LeavesNext old.may_leave verdicts book left trees
        → LeavesStopped entries commands verdicts trees
    next_stops [] on trees leaves = judged_stops [] on trees leaves
    next_stops (next ∷ left) on trees (inl leaves) = judged_stops (next ∷ left) on trees leaves
    next_stops (next ∷ left) on trees (inr (after, judges, there)) = (after, inr (left, session_more next left Accepted after on judges), there)

    fault_stops : (fault : StoreFault) (left : List (Key × Command)) → Session entries commands verdicts book left → LeavesAtFault fault verdicts book left old new
        → (trees : Trees) → new.may_leave trees → LeavesStopped entries commands verdicts trees
    fault_stops Device left on (stands, leaves, cause) trees may = judged_stops left on trees (leaves trees may)
    fault_stops NeedsReopen left on (none, stands, leaves) trees may = judged_stops left on trees (leaves trees may)
    fault_stops Damaged left on none trees may = absurd none
    fault_stops InDoubt left on (stands, leaves, cause) trees may = next_stops left on trees (leaves trees may)
    fault_stops Memory left on (stands, leaves) trees may = next_stops left on trees (leaves trees may)

    -- a command that isn't accepted leaves the book
    verdict_stops : (verdict : Verdict) (left : List (Key × Command)) → Session entries commands verdicts book left → LeavesAtVerdict verdict verdicts book left old new
        → (trees : Trees) → new.may_leave trees → LeavesStopped entries commands verdicts trees
    verdict_stops verdict [] on none trees may = absurd none
    verdict_stops verdict (next ∷ left) on (after, judges, stands, leaves) trees may = elim (leaves trees may) [
      | inl there ↦ stopped verdict judges there
      | inr (none, was) ↦ absurd (some verdicts none)
    ]
      where
        some : (vs : List Verdict) → vs ++ verdict ∷ [] ≢ []
        some [] none = absurd cc
        some (v ∷ vs) none = absurd cc

        stopped : (v : Verdict) → JudgesOn book next.0 next.1 v after → Left trees after → LeavesStopped entries commands verdicts trees
        stopped Accepted one there = (after, inr (left, session_more next left Accepted after on one), there)
        stopped Repeated one there = (book, inl (next ∷ left, on), subst (Left trees) one.1 there)
        stopped (Refused refusal) one there = (book, inl (next ∷ left, on), subst (Left trees) one.1 there)

    answer_stops : (answer : Result Verdict StoreFault) (left : List (Key × Command)) → Session entries commands verdicts book left → LeavesAtAnswer answer verdicts book left old new
        → (trees : Trees) → new.may_leave trees → LeavesStopped entries commands verdicts trees
    answer_stops (Ok verdict) left on = verdict_stops verdict left on
    answer_stops (Err fault) left on = fault_stops fault left on

    stops : (answer : Result Verdict StoreFault) (ending : Ending) (left : List (Key × Command)) → Session entries commands verdicts book left
        → LeavesAfter verdicts book left old new answer ending → (trees : Trees) → new.may_leave trees → LeavesStopped entries commands verdicts trees
    stops answer Complete left on (all, stands, leaves) trees may = judged_stops left on trees (leaves trees may)
    stops answer (Stopped fault) left on leaves trees may = fault_stops fault left on leaves trees may
    stops answer Output left on leaves trees may = answer_stops answer left on leaves trees may

-- a run of a session, from what it wrote and what it left
run_of : (commands : List (Key × Command)) (from : ℕ) (old new : State) (before written : Option (List ℕ)) (answer : Result Verdict StoreFault) (end : RunEnd) (verdicts : List Verdict)
    → LeavesWhatStands old → Writes from verdicts answer end before written → EndsBehind (length commands) (length verdicts) answer end.ending
    → (HasCleanDisk new → (entries : List Entry) → Stands old entries
    → (book : List Entry) × (left : List (Key × Command)) × Session entries commands verdicts book left × LeavesAfter verdicts book left old new answer end.ending)
    → Survives old new (λ trees. (entries : List Entry) → Stands old entries → LeavesFirst entries commands trees)
    → (HasCleanDisk new → (tables : Tables) → Has old tables → RunsByText tables commands verdicts old new answer end.ending)
    → RunsSession commands from old new before written answer end
run_of commands from old new before written answer end verdicts stands_so writes place session crash texts = record {
  verdicts = verdicts;
  writes = writes;
  place = place;
  session = session;
  stop = λ clean opened entries stands.
      let on = session clean entries stands in
      stops entries commands verdicts on.0 old new (stands_so (omega (arith, clean, crash.clean)) opened entries stands) answer end.ending on.1 on.2 on.3;
  crash = crash;
  texts = texts;
}

-- what a command may add is the book with its entry
adds : (Before : List Entry → Type 0) (key : Key) (command : Command) (answer : Result Verdict StoreFault) (trees : Trees) (book : List Entry) → Before book → MayAdd Before key command answer trees
    → LeavesEntry book key command trees
adds Before key command (Ok Accepted) trees book there add = add book there
adds Before key command (Ok Repeated) trees book there none = absurd none
adds Before key command (Ok (Refused refusal)) trees book there none = absurd none
adds Before key command (Err InDoubt) trees book there add = add book there
adds Before key command (Err Memory) trees book there add = add book there
adds Before key command (Err Device) trees book there none = absurd none
adds Before key command (Err NeedsReopen) trees book there none = absurd none
adds Before key command (Err Damaged) trees book there none = absurd none

module _ (kept kept_then : Option Known) (rounding : Option Rounding) (asked : List (Key × Asked)) (done left : List (Key × Command)) (from refused number : ℕ)
    (old now new : State) (before mid written : Option (List ℕ)) (asks : Key × Asked) (next : Key × Command) (Next : List Entry → Type 0)
    (so : SoFar kept Next rounding asked done from refused old now before mid) (numbered : number ≡ from + length done) where
  judged_so : (entries book : List Entry) → AreTurnedOn rounding entries asked done so.verdicts book → JudgesAll entries done so.verdicts book
  judged_so entries book turns = turns_judge rounding entries asked done so.verdicts book turns

  count : number ≡ length so.verdicts + from
  count = omega (arith, numbered, so.counted)

  -- a crash may leave the first commands, with the next one too
  first : (answer : Result Verdict StoreFault) → AppliesWith (IsOf kept) (IsOf kept_then) next.0 next.1 now new answer
      → Survives old new (λ trees. (entries : List Entry) → Stands old entries → LeavesFirst entries (done ++ next ∷ []) trees)
  first answer applies =
      survives_then old now new (λ trees. (entries : List Entry) → Stands old entries → LeavesFirst entries done trees) (MayAdd (StandsWith (IsOf kept) now) next.0 next.1 answer)
      (λ trees. (entries : List Entry) → Stands old entries → LeavesFirst entries (done ++ next ∷ []) trees)
      (λ clean db leaves entries stands. first_more entries done (next ∷ []) db (leaves entries stands))
      (λ clean db add entries stands.
      let was = so.judged (omega (arith, clean, applies.crash.clean)) entries stands in
      let more = adds (StandsWith (IsOf kept) now) next.0 next.1 answer db was.0 was.2 add in (
        so.verdicts ++ Accepted ∷ [],
        more.0,
        [],
        record {
          done = done ++ next ∷ [];
          split = sym (append-nil (done ++ next ∷ []));
          judged = judges_more entries done so.verdicts was.0 more.0 next Accepted (judged_so entries was.0 was.1) more.1;
        },
        more.2,
      )) so.crash applies.crash

  -- the same of all commands
  first_all : (answer : Result Verdict StoreFault) → AppliesWith (IsOf kept) (IsOf kept_then) next.0 next.1 now new answer
      → Survives old new (λ trees. (entries : List Entry) → Stands old entries → LeavesFirst entries (done ++ next ∷ left) trees)
  first_all answer applies =
      survives_weaker old new (λ trees. (entries : List Entry) → Stands old entries → LeavesFirst entries (done ++ next ∷ []) trees)
      (λ trees. (entries : List Entry) → Stands old entries → LeavesFirst entries (done ++ next ∷ left) trees)
      (λ _ db leaves entries stands. subst (λ (cs : List (Key × Command)). LeavesFirst entries cs db) (append_assoc done (next ∷ []) left)
      (first_more entries (done ++ next ∷ []) left db (leaves entries stands))) (first answer applies)

  -- the next command is judged, and the book after it is what stands, and what a crash leaves
  judges_next : (verdict : Verdict) → AppliesWith (IsOf kept) (IsOf kept_then) next.0 next.1 now new (Ok verdict)
      → (IsTrue new.is_open → (trees : Trees) → new.may_leave trees → trees ≡ new.committed.trees) → HasCleanDisk new → (book : List Entry) → StandsWith (IsOf kept) now book
      → (after : List Entry) × JudgesOn book next.0 next.1 verdict after × StandsWith (IsOf kept_then) new after × ((trees : Trees) → new.may_leave trees → Left trees after)
  judges_next verdict applies safe clean book there =
      let one = applies.judged clean book there in
      let set = applies.settled clean in
      (one.0, one.1, one.2, λ trees may. left_of new one.0 trees one.2.0 set.1 (safe set.0 trees may))

  pub so_far_next : (verdict : Verdict) (condition : Condition) → RepliesTo kept kept_then next.0 next.1 number now new mid written condition (Ok verdict)
      → (IsTrue new.is_open → (trees : Trees) → new.may_leave trees → trees ≡ new.committed.trees)
      → ((book : List Entry) → Next book → IsTurned rounding book asks next)
      → SoFar kept_then Any rounding (asked ++ asks ∷ []) (done ++ next ∷ []) from (refused + count_refused (verdict ∷ [])) old new before written
  so_far_next verdict condition (applies, printed, by_text, finds, keeps) safe known = record {
    verdicts = so.verdicts ++ verdict ∷ [];
    counted = length-append done (next ∷ []) ∙ ap (λ n. n + 1) so.counted ∙ sym (length-append so.verdicts (verdict ∷ []));
    refusals = ap (λ n. n + count_refused (verdict ∷ [])) so.refusals ∙ sym (refused_more so.verdicts verdict);
    lines = subst (Appends before written) (sym (replies_more from so.verdicts verdict ∙ ap (λ n. replies from so.verdicts ++ reply n verdict) (sym count)))
        (Appends-trans before mid written _ _ so.lines printed);
    judged = λ clean entries stands.
        let was = so.judged (omega (arith, clean, applies.crash.clean)) entries stands in
        let one = judges_next verdict applies safe clean was.0 was.2 in (
          one.0,
          turns_more rounding entries asked done so.verdicts was.0 one.0 asks next verdict was.1 (known was.0 was.4) one.1,
          one.2,
          (λ trees may. inl (one.3 trees may)),
          tt,
        );
    shut = λ clean is. absurd (true≢false (sym (applies.settled clean).0 ∙ is));
    crash = first (Ok verdict) applies;
    turned = λ clean tables has.
        let was = so.turned (omega (arith, clean, applies.crash.clean)) tables has in
        let one : HasTurned was.0 next.0 next.1 new verdict = by_text clean was.0 was.2 in (
          one.0,
          turn_more tables done so.verdicts was.0 one.0 next verdict was.1 one.1,
          one.2,
        );
    paired = λ clean tables has.
        let early : HasCleanDisk now = omega (arith, clean, applies.crash.clean) in
        let was = so.paired early tables has in
        let it = so.turned early tables has in
        let back = paired_before tables done so.verdicts it.0 it.1 was.0 in (
          all-append (λ (keyed : Key × Command). HavePairedFor keyed.1 tables) done (next ∷ []) was.0
              (all_before kept tables it.0 (pairs_in next.1) back was.1 (finds clean it.0 it.2), tt),
          all_before kept tables it.0 (whole_pairs kept_then) back was.1 (keeps clean it.0 it.2),
        );
  }

  -- ---- the run ends at the command

  -- the session that has judged the commands before it
  session : (entries : List Entry) (book : List Entry) → AreTurnedOn rounding entries asked done so.verdicts book → Session entries (done ++ next ∷ left) so.verdicts book (next ∷ left)
  session entries book turns = record { done = done; split = refl; judged = judged_so entries book turns }

  -- where nothing is added
  kept_only : (answer : Result Verdict StoreFault) (applies : AppliesWith (IsOf kept) (IsOf kept_then) next.0 next.1 now new answer) → ((trees : Trees) → ¬ MayAdd (StandsWith (IsOf kept) now) next.0 next.1 answer trees) → HasCleanDisk new
      → (could : Trees → Type 0) (book : List Entry) → ((trees : Trees) → now.may_leave trees → LeavesJudged could so.verdicts book trees)
      → (trees : Trees) → new.may_leave trees → LeavesJudged could so.verdicts book trees
  kept_only answer applies none clean could book was trees may = elim (applies.crash.crash clean trees may) [ inl earlier ↦ was trees earlier | inr add ↦ absurd (none trees add) ]

  leaves_next : (answer : Result Verdict StoreFault) (applies : AppliesWith (IsOf kept) (IsOf kept_then) next.0 next.1 now new answer) → HasCleanDisk new → (could : Trees → Type 0) (book : List Entry) → StandsWith (IsOf kept) now book
      → ((trees : Trees) → now.may_leave trees → LeavesJudged could so.verdicts book trees)
      → (trees : Trees) → new.may_leave trees → LeavesNext could so.verdicts book (next ∷ left) trees
  leaves_next answer applies clean could book there was trees may = elim (applies.crash.crash clean trees may) [
    | inl earlier ↦ inl (was trees earlier)
    | inr add ↦ inr (adds (StandsWith (IsOf kept) now) next.0 next.1 answer trees book there add)
  ]

  -- the disk failed during the run, or the database was shut before it
  failed_since : (answer : Result Verdict StoreFault) → AppliesWith (IsOf kept) (IsOf kept_then) next.0 next.1 now new answer → HasCleanDisk new → DiskFailed now new → DiskFailed old new
  failed_since answer applies clean (inl more) = inl (omega (arith, so.crash.counts, more))
  failed_since answer applies clean (inr closed) = inr (so.shut (omega (arith, clean, applies.crash.clean)) closed)

  -- the disk failed, or there is no room for the command
  refused_for : (book : List Entry) → StandsWith (IsOf kept) now book → AppliesWith (IsOf kept) (IsOf kept_then) next.0 next.1 now new (Err Device)
      → FailsFor kept next.0 next.1 now new (Err Device) → HasCleanDisk new → DiskFailed old new ⊎ HasNoRoomForNext book (next ∷ left) new
  refused_for book there applies fails clean = elim (fails.device clean refl book there.0 there.1) [
    | inl failed ↦ failed_so failed
    | inr room ↦ elim (cases_Bool now.is_open) [
      | inl live ↦ elim (applies.crash.closes clean live) [
        | inl still ↦
            let same = (applies.rest clean).1 still in
            inr (
              stands_along now new book same there.0,
              subst (λ (d : Database). HasNoRoomFor next.0 next.1 book there.0.tables d.trees new) (sym same) room,
            )
        | inr fault ↦ failed_so (inl fault)
      ]
      | inr shut ↦ failed_so (inr shut)
    ]
  ]
    where
      failed_so : DiskFailed now new → DiskFailed old new ⊎ HasNoRoomForNext book (next ∷ left) new
      failed_so failed = inl (failed_since (Err Device) applies clean failed)

  -- what stands after a fault of the command
  at_fault : (fault : StoreFault) → AppliesWith (IsOf kept) (IsOf kept_then) next.0 next.1 now new (Err fault)
      → FailsFor kept next.0 next.1 now new (Err fault) → fault ≢ NeedsReopen → HasCleanDisk new
      → (book : List Entry) → StandsWith (IsOf kept) now book → ((trees : Trees) → now.may_leave trees → LeavesJudged old.may_leave so.verdicts book trees)
      → LeavesAtFault fault so.verdicts book (next ∷ left) old new
  at_fault Device applies fails usable clean book there was = (
    λ opened. stands_along now new book ((applies.rest clean).1 opened) there.0,
    kept_only (Err Device) applies (λ trees none. none) clean old.may_leave book was,
    refused_for book there applies fails clean,
  )
  at_fault InDoubt applies fails usable clean book there was = (
    λ opened. stands_along now new book ((applies.rest clean).1 opened) there.0,
    leaves_next (Err InDoubt) applies clean old.may_leave book there was,
    failed_since (Err InDoubt) applies clean (fails.in_doubt clean refl),
  )
  at_fault Memory applies fails usable clean book there was = (
    λ opened. stands_along now new book ((applies.rest clean).1 opened) there.0,
    leaves_next (Err Memory) applies clean old.may_leave book there was,
  )
  at_fault NeedsReopen applies fails usable clean book there was = absurd (usable refl)
  at_fault Damaged applies fails usable clean book there was = applies.damaged clean refl book there

  -- what stands after a verdict on it, whose reply isn't written out
  at_verdict : (verdict : Verdict) → AppliesWith (IsOf kept) (IsOf kept_then) next.0 next.1 now new (Ok verdict)
      → (IsTrue new.is_open → (trees : Trees) → new.may_leave trees → trees ≡ new.committed.trees) → HasCleanDisk new → (book : List Entry) → StandsWith (IsOf kept) now book
      → LeavesAtVerdict verdict so.verdicts book (next ∷ left) old new
  at_verdict verdict applies safe clean book there =
      let one = judges_next verdict applies safe clean book there in (one.0, one.1, one.2.0, λ trees may. inl (one.3 trees may))

  at_answer : (answer : Result Verdict StoreFault) → AppliesWith (IsOf kept) (IsOf kept_then) next.0 next.1 now new answer → FailsFor kept next.0 next.1 now new answer → answer ≢ Err NeedsReopen
      → (IsTrue new.is_open → (trees : Trees) → new.may_leave trees → trees ≡ new.committed.trees) → HasCleanDisk new → (book : List Entry) → StandsWith (IsOf kept) now book
      → ((trees : Trees) → now.may_leave trees → LeavesJudged old.may_leave so.verdicts book trees)
      → LeavesAtAnswer answer so.verdicts book (next ∷ left) old new
  at_answer (Ok verdict) applies fails usable safe clean book there was = at_verdict verdict applies safe clean book there
  at_answer (Err fault) applies fails usable safe clean book there was = at_fault fault applies fails (λ spent. usable (ap Err spent)) clean book there was

  here : length so.verdicts < length (done ++ next ∷ left)
  here = omega (arith, length-append done (next ∷ left), so.counted)

  -- the answer to the command on the tables before it
  answers_next : (answer : Result Verdict StoreFault) → AppliesWith (IsOf kept) (IsOf kept_then) next.0 next.1 now new answer → FailsFor kept next.0 next.1 now new answer
      → IsByText next.0 next.1 now new answer → HasCleanDisk new → (tables : Tables) → Has now tables
      → AnswersByText tables next.0 next.1 old new answer
  answers_next answer applies fails by_text clean tables has = record {
    damage = λ damaged. of_damage_since old now new (failed_since answer applies clean) answer (fails.damage clean tables has damaged);
    leaves = leaves_by_text tables next.0 next.1 now new (result_ok answer) (by_text clean tables has) (applies.rest clean) has;
  }

  -- so is the answer where some pair that it posts to wasn't paired before the run
  meets_next : (answer : Result Verdict StoreFault) → AppliesWith (IsOf kept) (IsOf kept_then) next.0 next.1 now new answer → FailsFor kept next.0 next.1 now new answer
      → HasCleanDisk new → (tables : Tables) → Has old tables → MeetsUnpairedFirst tables (next ∷ left) old new answer
  meets_next answer applies fails clean tables has unpaired =
      let early : HasCleanDisk now = omega (arith, clean, applies.crash.clean) in
      let was = so.paired early tables has in
      let it = so.turned early tables has in
      let back = paired_before tables done so.verdicts it.0 it.1 was.0 in
      of_damage_since old now new (failed_since answer applies clean) answer
      (fails.unpaired clean it.0 it.2 (λ found. unpaired (all_before kept tables it.0 (pairs_in next.1) back was.1 found)))

  -- the run ends at it
  texts_end : (answer : Result Verdict StoreFault) (ending : Ending) → AppliesWith (IsOf kept) (IsOf kept_then) next.0 next.1 now new answer → FailsFor kept next.0 next.1 now new answer
      → IsByText next.0 next.1 now new answer
      → ((tables : Tables) → AnswersByText tables next.0 next.1 old new answer → EndsByText tables (next ∷ left) old new answer ending)
      → ((tables : Tables) → MeetsUnpairedFirst tables (next ∷ left) old new answer → EndsUnpaired tables (next ∷ left) old new answer ending)
      → HasCleanDisk new → (tables : Tables) → Has old tables → RunsByText tables (done ++ next ∷ left) so.verdicts old new answer ending
  texts_end answer ending applies fails by_text ends meets clean tables has =
      let was = so.turned (omega (arith, clean, applies.crash.clean)) tables has in
      record {
        done = done;
        left = next ∷ left;
        split = refl;
        after = was.0;
        turn = was.1;
        ends = ends was.0 (answers_next answer applies fails by_text clean was.0 was.2);
        paired = (so.paired (omega (arith, clean, applies.crash.clean)) tables has).0;
        unpaired = meets tables (meets_next answer applies fails clean tables has);
      }

  -- what was written up to the end, and what stands then
  ends_so : (answer : Result Verdict StoreFault) (ending : Ending) → LeavesWhatStands old → AppliesWith (IsOf kept) (IsOf kept_then) next.0 next.1 now new answer → WritesEnd from so.verdicts answer ending before written
      → EndsBehind (length (done ++ next ∷ left)) (length so.verdicts) answer ending
      → (HasCleanDisk new → (book : List Entry) → StandsWith (IsOf kept) now book → ((trees : Trees) → now.may_leave trees → LeavesJudged old.may_leave so.verdicts book trees)
      → LeavesAfter so.verdicts book (next ∷ left) old new answer ending)
      → (HasCleanDisk new → (tables : Tables) → Has old tables → RunsByText tables (done ++ next ∷ left) so.verdicts old new answer ending)
      → RunsSession (done ++ next ∷ left) from old new before written answer (record { replied = length done; refused = refused; ending = ending })
  ends_so answer ending stands_so applies lines place leaves texts =
      run_of (done ++ next ∷ left) from old new before written answer (record { replied = length done; refused = refused; ending = ending }) so.verdicts stands_so
      (record { replied = so.counted; refused = so.refusals; lines = lines }) place
      (λ clean entries stands.
      let was = so.judged (omega (arith, clean, applies.crash.clean)) entries stands in
      (was.0, next ∷ left, session entries was.0 was.1, leaves clean was.0 was.2 was.3)) (first_all answer applies) texts

  -- what is judged in the place of what was handed in, with the command at which the run ends
  turned_so : (answer : Result Verdict StoreFault) (rest : List (Key × Asked)) → left ≡ map handed rest → AppliesWith (IsOf kept) (IsOf kept_then) next.0 next.1 now new answer
      → ((book : List Entry) → Next book → IsLastTurned (is_judged answer) rounding book asks next)
      → HasCleanDisk new → (entries : List Entry) → Stands old entries → AreTurned rounding entries (asked ++ asks ∷ rest) (done ++ next ∷ left) (length done) answer
  turned_so answer rest are applies known clean entries stands =
      let was = so.judged (omega (arith, clean, applies.crash.clean)) entries stands in
      record {
        verdicts = so.verdicts;
        counted = so.counted;
        first = asked;
        rest = asks ∷ rest;
        asked_are = refl;
        done = done;
        left = next ∷ left;
        turned_are = refl;
        book = was.0;
        turns = was.1;
        next = (known was.0 was.4, are);
      }

  pub run_ends : (ending : Ending) (was condition : Condition) (rest : List (Key × Asked)) → left ≡ map handed rest
      → (replies : RepliesTo kept kept_then next.0 next.1 number now new mid written condition (Err ending))
      → ((book : List Entry) → Next book → IsLastTurned (is_judged replies.0) rounding book asks next)
      → (IsTrue new.is_open → (trees : Trees) → new.may_leave trees → trees ≡ new.committed.trees) → LeavesWhatStands old
      → RunsTurned rounding (asked ++ asks ∷ rest) from old new before written was condition (record { replied = length done; refused = refused; ending = ending })
  run_ends ending was condition rest are (answer, applies, fails, by_text, usable, after, inl (fault, is, stopped, printed)) known safe stands_so = rw stopped (
    done ++ next ∷ left,
    (
      answer,
      ends_so answer (Stopped fault) stands_so applies
          (subst (λ n. Appends before written (replies from so.verdicts ++ fault_line n fault)) count (Appends-trans before mid written _ _ so.lines printed)) (inl here)
          (at_fault fault (subst (AppliesWith (IsOf kept) (IsOf kept_then) next.0 next.1 now new) is applies) (subst (FailsFor kept next.0 next.1 now new) is fails) (λ spent. usable (is ∙ ap Err spent)))
          (texts_end answer (Stopped fault) applies fails by_text (λ tables answers. subst (AnswersByText tables next.0 next.1 old new) is answers)
          (λ tables meets. subst (MeetsUnpairedFirst tables (next ∷ left) old new) is meets)),
      (λ ready. usable),
      after ∙ ap condition_after is,
    ),
    turned_so answer rest are applies known,
  )
  run_ends ending was condition rest are (answer, applies, fails, by_text, usable, after, inr (cut, part)) known safe stands_so = rw cut (
    done ++ next ∷ left,
    (
      answer,
      ends_so answer Output stands_so applies
          (part.0, subst (λ n. IsPrefixOf part.0 (answer_line n answer)) count part.1, Appends-trans before mid written _ _ so.lines part.2) (inl here)
          (at_answer answer applies fails usable safe) (texts_end answer Output applies fails by_text (λ tables answers. answers) (λ tables meets. meets)),
      (λ ready. usable),
      after,
    ),
    turned_so answer rest are applies known,
  )

-- ---- the run ends behind all commands, or before any

pub run_completes : (kept : Option Known) (rounding : Option Rounding) (asked : List (Key × Asked)) (done : List (Key × Command)) (from refused : ℕ) (old new : State)
    (before written : Option (List ℕ)) (was condition : Condition)
    → SoFar kept Any rounding asked done from refused old new before written → condition ≡ Ready → LeavesWhatStands old
    → RunsTurned rounding asked from old new before written was condition (record { replied = length done; refused = refused; ending = Complete })
run_completes kept rounding asked done from refused old new before written was condition so ready stands_so = (
  done,
  (
    Ok Accepted,
    run_of done from old new before written (Ok Accepted) (record { replied = length done; refused = refused; ending = Complete }) so.verdicts stands_so
        (record { replied = so.counted; refused = so.refusals; lines = so.lines }) (sym so.counted)
        (λ clean entries stands.
        let was = so.judged clean entries stands in (
          was.0,
          [],
          record { done = done; split = sym (append-nil done); judged = turns_judge rounding entries asked done so.verdicts was.0 was.1 },
          (refl, was.2.0, was.3),
        )) so.crash
        (λ clean tables has.
        let was = so.turned clean tables has in
        record { done = done; left = []; split = sym (append-nil done); after = was.0; turn = was.1; ends = (refl, was.2); paired = (so.paired clean tables has).0; unpaired = tt }),
    (λ usable is. absurd cc),
    ready,
  ),
  λ clean entries stands.
      let was = so.judged clean entries stands in
      record {
        verdicts = so.verdicts;
        counted = so.counted;
        first = asked;
        rest = [];
        asked_are = sym (append-nil asked);
        done = done;
        left = [];
        turned_are = sym (append-nil done);
        book = was.0;
        turns = was.1;
        next = tt;
      },
)

pub run_needs_reopening : (rounding : Option Rounding) (asked : List (Key × Asked)) (from : ℕ) (old : State) (before written : Option (List ℕ)) (ending : Ending) (condition : Condition)
    → StopsWith from NeedsReopen before written ending → condition ≡ MustReopen → LeavesWhatStands old
    → RunsTurned rounding asked from old old before written condition condition (record { replied = 0; refused = 0; ending = ending })
run_needs_reopening rounding asked from old before written ending condition stops_so spent stands_so = (
  map handed asked,
  (
    Err NeedsReopen,
    run_of (map handed asked) from old old before written (Err NeedsReopen) (record { replied = 0; refused = 0; ending = ending }) [] stands_so
        (record { replied = refl; refused = refl; lines = lines stops_so }) (place stops_so)
        (λ clean entries stands. (entries, map handed asked, record { done = []; split = refl; judged = refl }, leaves stops_so entries stands)) (survives_same old _)
        (λ clean tables has. record { done = []; left = map handed asked; split = refl; after = tables; turn = refl; ends = texts stops_so tables has (map handed asked); paired = tt; unpaired = meets stops_so tables (map handed asked) }),
    (λ ready. let both = sym ready ∙ spent in absurd cc),
    after stops_so,
  ),
  λ clean entries stands. record {
    verdicts = [];
    counted = refl;
    first = [];
    rest = asked;
    asked_are = refl;
    done = [];
    left = map handed asked;
    turned_are = refl;
    book = entries;
    turns = refl;
    next = as_handed entries asked;
  },
)
  where
    zero-on : (n : ℕ) → n ≡ length {A = Verdict} [] + n
    zero-on n = omega arith

    lines : StopsWith from NeedsReopen before written ending → WritesEnd from [] (Err NeedsReopen) ending before written
    lines (inl (is, printed)) = rw is (subst (λ n. Appends before written ([] ++ fault_line n NeedsReopen)) (zero-on from) printed)
    lines (inr (is, part)) = rw is (part.0, subst (λ n. IsPrefixOf part.0 (fault_line n NeedsReopen)) (zero-on from) part.1, part.2)

    as_handed : (book : List Entry) (all : List (Key × Asked)) → AreLeft false rounding book all (map handed all)
    as_handed book [] = tt
    as_handed book (one ∷ more) = (inr refl, refl)

    place : StopsWith from NeedsReopen before written ending → EndsBehind (length (map handed asked)) 0 (Err NeedsReopen) ending
    place (inl (is, printed)) = rw is (inr (refl, refl))
    place (inr (is, part)) = rw is (inr (refl, refl))

    leaves : StopsWith from NeedsReopen before written ending → (entries : List Entry) → Stands old entries → LeavesAfter [] entries (map handed asked) old old (Err NeedsReopen) ending
    leaves (inl (is, printed)) entries stands = rw is (refl, stands, λ trees may. inr (refl, may))
    leaves (inr (is, part)) entries stands = rw is (refl, stands, λ trees may. inr (refl, may))

    spent_answer : (tables : Tables) → Has old tables → (cs : List (Key × Command)) → AnswersFirst tables cs old old (Err NeedsReopen)
    spent_answer tables has [] = tt
    spent_answer tables has (next ∷ left) = record { damage = λ damaged. tt; leaves = λ opened. has }

    texts : StopsWith from NeedsReopen before written ending → (tables : Tables) → Has old tables → (cs : List (Key × Command))
        → EndsByText tables cs old old (Err NeedsReopen) ending
    texts (inl (is, printed)) tables has cs = rw is (spent_answer tables has cs)
    texts (inr (is, part)) tables has cs = rw is (spent_answer tables has cs)

    spent_meets : (tables : Tables) (cs : List (Key × Command)) → MeetsUnpairedFirst tables cs old old (Err NeedsReopen)
    spent_meets tables [] = tt
    spent_meets tables (next ∷ left) = λ unpaired. tt

    meets : StopsWith from NeedsReopen before written ending → (tables : Tables) (cs : List (Key × Command))
        → EndsUnpaired tables cs old old (Err NeedsReopen) ending
    meets (inl (is, printed)) tables cs = rw is (spent_meets tables cs)
    meets (inr (is, part)) tables cs = rw is (spent_meets tables cs)

    after : StopsWith from NeedsReopen before written ending → IsConditionAfter (Err NeedsReopen) ending condition
    after (inl (is, printed)) = rw is spent
    after (inr (is, part)) = rw is spent

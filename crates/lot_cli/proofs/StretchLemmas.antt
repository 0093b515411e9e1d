-- Runs of a book, one behind the other, are one run of commands with numbers: each is of commands whose numbers follow one another.
use Rattle.std.proofs.Common.{◌≡◌, ◌≢◌, ◌∙◌, ◌⊎◌, inl, inr, ◌<◌, ◌≤◌, ◌+◌, ℕ, Bool, zero, suc, List, [], ◌∷◌, ◌++◌, Ok, Err, Option, Result, length, map, get_or, take, drop, ◌-◌, append_assoc, append-nil, length-append, refl, sym, ap, subst, arith}
use Rattle.std.proofs.KnownBytes.{Appends-nil, Appends-trans}
use Rattle.std.proofs.lemmas.Bool.{cases_Bool, true≢false}
use Rattle.std.proofs.Math.Seq.{take-add}
use Rattle.std.proofs.lemmas.List.{get_or-append-add, get_or_append_left, length-drop, length-take-le, take-append-drop, take_all}
use Rattle.std.proofs.lemmas.List.Folds.{drop_split}
use Rattle.std.proofs.lemmas.List.FromFn.{get_or-range_with_len, length-range_with_len}
use Rattle.std.specs.Io.KnownBytes.{Appends}
use Rattle.std.specs.List.{AllByRecursion, range_with_len, slice_range}
use Rattle.sqlite.proofs.StateLemmas.{survives_then}
use Rattle.sqlite.specs.State.{HasCleanDisk, State, Survives}
use Rattle.sqlite.specs.Tree.{Trees}
use Rattle.sqlite_keyed.proofs.ListLemmas.{all-append}
use Rattle.lot_command.specs.declared.command.Command.{Command}
use Rattle.lot_command.specs.declared.key.Key.{Key}
use Rattle.lot_book.specs.Facts.{Entry}
use Rattle.lot_book.specs.Judged.{JudgesAll, JudgesOn}
use Rattle.lot_book.specs.declared.change.Pair.{Pair}
use Rattle.lot_book.specs.declared.verdict.Verdict.{Verdict}
use Rattle.lot_book.specs.declared.verdict.Verdict.TheVariants.{Accepted, Refused, Repeated}
use Rattle.lot_laws.proofs.JudgedLaws.{judged_alike, judges_more}
use Rattle.lot_io.specs.Writes.{AllFlushed, IsFlushed, WritesMade}
use Rattle.lot_report.specs.Printed.{replies, reply}
use Rattle.lot_report.specs.Written.{IsPrefixOf}
use Rattle.lot_rounding.specs.declared.asked.Asked.{Asked}
use Rattle.lot_rounding.specs.declared.rounding.Rounding.{Rounding}
use Rattle.lot_rows.proofs.StateLemmas.{survives_same}
use Rattle.lot_load.specs.Paired.{HavePaired, HavePairedFor}
use Rattle.lot_rows.specs.Tables.{Has, Tables}
use Rattle.lot_stored.specs.StandFor.{Left, Stands}
use Rattle.lot_stream.specs.declared.status.Status.{Status}
use Rattle.lot_stream.specs.declared.status.Status.TheVariants.{Accepted as AllAccepted, Refused as SomeRefused, Stopped as IsStopped}
use Rattle.lot_table.specs.Statement.{DiskFailed}
use Rattle.lot_atomic.proofs.RepliesLemmas.{number_in_a_row, replies_in_a_row}
use Rattle.lot_atomic.specs.Replies.{number_at, replies_by}
use Rattle.lot_cli.specs.Runs.{FollowOneAnother, RunsEach, RunsNumbered, WritesEndBy, first_number, status_ending, status_of_run}
use Rattle.lot_store.proofs.DamageLemmas.{of_damage_since}
use Rattle.lot_store.proofs.RunLemmas.{LeavesWhatStands, turns_judge}
use Rattle.lot_store.proofs.PairedLemmas.{command_before, commands_before, paired_before}
use Rattle.lot_store.specs.ByText.{AnswersFirst, EndsByText, EndsUnpaired, MeetsUnpairedFirst, RunsByText, TurnAllByText}
use Rattle.lot_store.specs.Run.{EndsBehind, HasNoRoomForNext, IsWrittenOut, LeavesAfter, LeavesAtAnswer, LeavesAtFault, LeavesAtVerdict, RunsSession, WritesEnd, answer_line, count_refused, fault_line}
use Rattle.lot_store.specs.Session.{LeavesFirst, LeavesJudged, LeavesNext, LeavesStopped, Session}
use Rattle.lot_store.specs.Turned.{AreLeft, AreTurned, AreTurnedOn, RunsTurned, handed, is_judged}
use Rattle.lot_store.specs.declared.book.Condition.{Condition}
use Rattle.lot_store.specs.declared.book.Condition.TheVariants.{Ready}
use Rattle.lot_store.specs.declared.fault.StoreFault.{StoreFault}
use Rattle.lot_store.specs.declared.fault.StoreFault.TheVariants.{Damaged, Device, InDoubt, Memory, NeedsReopen}
use Rattle.lot_store.specs.declared.run.Ending.{Ending}
use Rattle.lot_store.specs.declared.run.Ending.TheVariants.{Complete, Output, Stopped}
use Rattle.lot_store.specs.declared.run.RunEnd.{RunEnd}

-- ---- replies with numbers

replies_append : (ns ms : List ℕ) (vs ws : List Verdict) → length ns ≡ length vs → replies_by (ns ++ ms) (vs ++ ws) ≡ replies_by ns vs ++ replies_by ms ws
replies_append [] ms [] ws is = refl
replies_append [] ms (v ∷ vs) ws is = let none : ⊥ = omega (arith, is) in absurd none
replies_append (n ∷ ns) ms [] ws is = let none : ⊥ = omega (arith, is) in absurd none
replies_append (n ∷ ns) ms (v ∷ vs) ws is =
    ap (λ text. reply n v ++ text) (replies_append ns ms vs ws (omega (arith, is))) ∙ sym (append_assoc (reply n v) (replies_by ns vs) (replies_by ms ws))

-- numbers behind those of the verdicts change nothing
replies_first : (ns ms : List ℕ) (vs : List Verdict) → length vs ≤ length ns → replies_by (ns ++ ms) vs ≡ replies_by ns vs
replies_first ns ms [] few = refl
replies_first [] ms (v ∷ vs) few = let none : ⊥ = omega (arith, few) in absurd none
replies_first (n ∷ ns) ms (v ∷ vs) few = ap (λ text. reply n v ++ text) (replies_first ns ms vs (omega (arith, few)))

refused_append : (vs ws : List Verdict) → count_refused (vs ++ ws) ≡ count_refused vs + count_refused ws
refused_append [] ws = omega arith
refused_append (Accepted ∷ vs) ws = refused_append vs ws
refused_append (Repeated ∷ vs) ws = refused_append vs ws
refused_append (Refused refusal ∷ vs) ws = omega (arith, refused_append vs ws)

-- ---- commands judged one behind the other

judges_append : (before mid after : List Entry) (done more : List (Key × Command)) (vs ws : List Verdict) → JudgesAll before done vs mid
    → JudgesAll mid more ws after → JudgesAll before (done ++ more) (vs ++ ws) after
judges_append before mid after [] more [] ws all rest = subst (λ (b : List Entry). JudgesAll b more ws after) all rest
judges_append before mid after [] more (v ∷ vs) ws all rest = absurd all
judges_append before mid after (c ∷ done) more [] ws all rest = absurd all
judges_append before mid after (c ∷ done) more (v ∷ vs) ws all rest = (all.0, all.1, judges_append all.0 mid after done more vs ws all.2 rest)

turns_append : (rounding : Option Rounding) (before mid after : List Entry) (asked more : List (Key × Asked)) (done others : List (Key × Command)) (vs ws : List Verdict)
    → AreTurnedOn rounding before asked done vs mid → AreTurnedOn rounding mid more others ws after
    → AreTurnedOn rounding before (asked ++ more) (done ++ others) (vs ++ ws) after
turns_append rounding before mid after [] more [] others [] ws all rest = subst (λ (b : List Entry). AreTurnedOn rounding b more others ws after) all rest
turns_append rounding before mid after [] more [] others (v ∷ vs) ws all rest = absurd all
turns_append rounding before mid after [] more (t ∷ done) others vs ws all rest = absurd all
turns_append rounding before mid after (a ∷ asked) more [] others vs ws all rest = absurd all
turns_append rounding before mid after (a ∷ asked) more (t ∷ done) others [] ws all rest = absurd all
turns_append rounding before mid after (a ∷ asked) more (t ∷ done) others (v ∷ vs) ws (turned, book, judges, all) rest =
    (turned, book, judges, turns_append rounding book mid after asked more done others vs ws all rest)

-- as many were judged as there are verdicts
turns_count : (rounding : Option Rounding) (before after : List Entry) (asked : List (Key × Asked)) (done : List (Key × Command)) (vs : List Verdict)
    → AreTurnedOn rounding before asked done vs after → (length asked ≡ length vs) × (length done ≡ length vs)
turns_count rounding before after [] [] [] all = (refl, refl)
turns_count rounding before after [] [] (v ∷ vs) all = absurd all
turns_count rounding before after [] (t ∷ done) vs all = absurd all
turns_count rounding before after (a ∷ asked) [] vs all = absurd all
turns_count rounding before after (a ∷ asked) (t ∷ done) [] all = absurd all
turns_count rounding before after (a ∷ asked) (t ∷ done) (v ∷ vs) (turned, book, judges, all) =
    let rest = turns_count rounding book after asked done vs all in (ap suc rest.0, ap suc rest.1)

judges_count : (before after : List Entry) (done : List (Key × Command)) (vs : List Verdict) → JudgesAll before done vs after → length done ≡ length vs
judges_count before after [] [] all = refl
judges_count before after [] (v ∷ vs) all = absurd all
judges_count before after (c ∷ done) [] all = absurd all
judges_count before after (c ∷ done) (v ∷ vs) all = ap suc (judges_count all.0 after done vs all.2)

-- before the first verdict the book is as it was
judges_none : (before after : List Entry) (done : List (Key × Command)) (vs : List Verdict) → JudgesAll before done vs after → vs ≡ [] → after ≡ before
judges_none before after [] [] all none = all
judges_none before after [] (v ∷ vs) all none = absurd all
judges_none before after (c ∷ done) [] all none = absurd all
judges_none before after (c ∷ done) (v ∷ vs) all none = absurd cc

texts_append : (tables mid after : Tables) (done more : List (Key × Command)) (vs ws : List Verdict) → TurnAllByText tables done vs mid
    → TurnAllByText mid more ws after → TurnAllByText tables (done ++ more) (vs ++ ws) after
texts_append tables mid after [] more [] ws all rest = subst (λ (t : Tables). TurnAllByText t more ws after) all rest
texts_append tables mid after [] more (v ∷ vs) ws all rest = absurd all
texts_append tables mid after (c ∷ done) more [] ws all rest = absurd all
texts_append tables mid after (c ∷ done) more (v ∷ vs) ws all rest = (all.0, all.1, texts_append all.0 mid after done more vs ws all.2 rest)

texts_count : (tables after : Tables) (done : List (Key × Command)) (vs : List Verdict) → TurnAllByText tables done vs after → length done ≡ length vs
texts_count tables after [] [] all = refl
texts_count tables after [] (v ∷ vs) all = absurd all
texts_count tables after (c ∷ done) [] all = absurd all
texts_count tables after (c ∷ done) (v ∷ vs) all = ap suc (texts_count all.0 after done vs all.2)

no_more : {A : Type 0} (done left whole : List A) (vs : List Verdict) → whole ≡ done ++ left → length done ≡ length vs → length vs ≡ length whole → left ≡ []
no_more done [] whole vs split counted all = refl
no_more done (one ∷ left) whole vs split counted all =
    let none : ⊥ = omega (arith, ap length split, length-append done (one ∷ left), counted, all) in absurd none

some_left : {A : Type 0} (done left whole : List A) (vs : List Verdict) → whole ≡ done ++ left → length done ≡ length vs → length vs < length whole → left ≢ []
some_left done [] whole vs split counted few none = omega (arith, ap length split, ap length (append-nil done), counted, few)
some_left done (one ∷ left) whole vs split counted few none = absurd cc

-- a run that stops ends at one of its commands
stops_within : (commands replied : ℕ) (answer : Result Verdict StoreFault) (ending : Ending) → ending ≢ Complete → answer ≢ Err NeedsReopen
    → ending ≢ Stopped NeedsReopen → EndsBehind commands replied answer ending → replied < commands
stops_within commands replied answer Complete ends usable stops place = absurd (ends refl)
stops_within commands replied answer (Stopped fault) ends usable stops (inl within) = within
stops_within commands replied answer (Stopped fault) ends usable stops (inr (is, none)) = let same : fault ≡ NeedsReopen = cc in absurd (stops (ap Stopped same))
stops_within commands replied answer Output ends usable stops (inl within) = within
stops_within commands replied answer Output ends usable stops (inr (is, none)) = absurd (usable is)

-- lists in three parts
shift : {A : Type 0} (done first left rest : List A) → done ++ ((first ++ left) ++ rest) ≡ (done ++ first) ++ (left ++ rest)
shift done first left rest =
    ap (λ (xs : List _). done ++ xs) (append_assoc first left rest) ∙ sym (append_assoc done first (left ++ rest))

-- ---- what a session is behind another one

module _ (entries book : List Entry) (done : List (Key × Command)) (vs : List Verdict) (judged : JudgesAll entries done vs book) (rest : List (Key × Command)) where
  session_behind : (commands : List (Key × Command)) (ws : List Verdict) (after : List Entry) (left : List (Key × Command)) → Session book commands ws after left
      → Session entries (done ++ (commands ++ rest)) (vs ++ ws) after (left ++ rest)
  session_behind commands ws after left on = record {
    done = done ++ on.done;
    split = ap (λ (cs : List (Key × Command)). done ++ (cs ++ rest)) on.split ∙ shift done on.done left rest;
    judged = judges_append entries book after done on.done vs ws judged on.judged;
  }

  first_behind : (commands : List (Key × Command)) (trees : Trees) → LeavesFirst book commands trees → LeavesFirst entries (done ++ (commands ++ rest)) trees
  first_behind commands trees (ws, after, left, on, leaves) = (vs ++ ws, after, left ++ rest, session_behind commands ws after left on, leaves)

-- what a crash leaves of the first commands it leaves of more
first_more : (entries : List Entry) (commands more : List (Key × Command)) (trees : Trees) → LeavesFirst entries commands trees → LeavesFirst entries (commands ++ more) trees
first_more entries commands more trees (verdicts, book, left, on, leaves) = (
  verdicts,
  book,
  left ++ more,
  record { done = on.done; split = ap (λ (cs : List (Key × Command)). cs ++ more) on.split ∙ append_assoc on.done left more; judged = on.judged },
  leaves,
)

-- a disk that failed since a run has failed since before it
failed_since : (old mid new : State) (P Q : Trees → Type 0) → HasCleanDisk mid → Survives old mid P → Survives mid new Q → DiskFailed mid new → DiskFailed old new
failed_since old mid new P Q clean one two (inl more) = inl (omega (arith, one.counts, more))
failed_since old mid new P Q clean one two (inr shut) = elim (cases_Bool old.is_open) [
  | inl opened ↦ elim (one.closes clean opened) [ inl still ↦ absurd (true≢false (sym still ∙ shut)) | inr fault ↦ inl (omega (arith, fault, two.counts)) ]
  | inr closed ↦ inr closed
]

not_nil : (ws : List Verdict) (verdict : Verdict) → ws ++ verdict ∷ [] ≢ []
not_nil [] verdict none = absurd cc
not_nil (w ∷ ws) verdict none = absurd cc

module _ (old mid new : State) (vs : List Verdict) (book : List Entry) (may : (trees : Trees) → mid.may_leave trees → LeavesJudged old.may_leave vs book trees)
    (failed : DiskFailed mid new → DiskFailed old new) (rest : List (Key × Command)) where
  judged_behind : (ws : List Verdict) (after : List Entry) → (ws ≡ [] → after ≡ book) → (trees : Trees) → LeavesJudged mid.may_leave ws after trees
      → LeavesJudged old.may_leave (vs ++ ws) after trees
  judged_behind ws after same trees (inl left) = inl left
  judged_behind ws after same trees (inr (none, could)) = elim (may trees could) [
    | inl left ↦ inl (subst (Left trees) (sym (same none)) left)
    | inr (nil, was) ↦ inr (ap (λ (us : List Verdict). us ++ ws) nil ∙ none, was)
  ]

  module _ (ws : List Verdict) (after : List Entry) (same : ws ≡ [] → after ≡ book) where
    next_behind : (left : List (Key × Command)) (trees : Trees) → LeavesNext mid.may_leave ws after left trees → LeavesNext old.may_leave (vs ++ ws) after (left ++ rest) trees
    next_behind [] trees leaves = by rest
      where
        by : (cs : List (Key × Command)) → LeavesNext old.may_leave (vs ++ ws) after cs trees
        by [] = judged_behind ws after same trees leaves
        by (c ∷ cs) = inl (judged_behind ws after same trees leaves)
    next_behind (next ∷ left) trees (inl leaves) = inl (judged_behind ws after same trees leaves)
    next_behind (next ∷ left) trees (inr entry) = inr entry

    room_behind : (left : List (Key × Command)) → HasNoRoomForNext after left new → HasNoRoomForNext after (left ++ rest) new
    room_behind [] none = absurd none
    room_behind (next ∷ left) room = room

    fault_behind : (left : List (Key × Command)) (fault : StoreFault) → fault ≢ NeedsReopen → LeavesAtFault fault ws after left mid new
        → LeavesAtFault fault (vs ++ ws) after (left ++ rest) old new
    fault_behind left Device usable (stands, leaves, inl cause) =
        (stands, (λ trees left_so. judged_behind ws after same trees (leaves trees left_so)), inl (failed cause))
    fault_behind left Device usable (stands, leaves, inr room) =
        (stands, (λ trees left_so. judged_behind ws after same trees (leaves trees left_so)), inr (room_behind left room))
    fault_behind left NeedsReopen usable leaves = absurd (usable refl)
    fault_behind left Damaged usable none = absurd none
    fault_behind left InDoubt usable (stands, leaves, cause) = (stands, (λ trees left_so. next_behind left trees (leaves trees left_so)), failed cause)
    fault_behind left Memory usable (stands, leaves) = (stands, λ trees left_so. next_behind left trees (leaves trees left_so))

    verdict_behind : (left : List (Key × Command)) (verdict : Verdict) → LeavesAtVerdict verdict ws after left mid new
        → LeavesAtVerdict verdict (vs ++ ws) after (left ++ rest) old new
    verdict_behind [] verdict none = absurd none
    verdict_behind (next ∷ left) verdict (last, judges, stands, leaves) = (
      last,
      judges,
      stands,
      λ trees left_so. subst (λ (us : List Verdict). LeavesJudged old.may_leave us last trees) (sym (append_assoc vs ws (verdict ∷ [])))
          (judged_behind (ws ++ verdict ∷ []) last (λ none. absurd (not_nil ws verdict none)) trees (leaves trees left_so)),
    )

    answer_behind : (left : List (Key × Command)) (answer : Result Verdict StoreFault) → answer ≢ Err NeedsReopen → LeavesAtAnswer answer ws after left mid new
        → LeavesAtAnswer answer (vs ++ ws) after (left ++ rest) old new
    answer_behind left (Ok verdict) usable leaves = verdict_behind left verdict leaves
    answer_behind left (Err fault) usable leaves = fault_behind left fault (λ is. usable (ap Err is)) leaves

    after_behind : (left : List (Key × Command)) (answer : Result Verdict StoreFault) (ending : Ending) → ending ≢ Complete → answer ≢ Err NeedsReopen
        → ending ≢ Stopped NeedsReopen → LeavesAfter ws after left mid new answer ending → LeavesAfter (vs ++ ws) after (left ++ rest) old new answer ending
    after_behind left answer Complete ends usable stops leaves = absurd (ends refl)
    after_behind left answer (Stopped fault) ends usable stops leaves = fault_behind left fault (λ is. stops (ap Stopped is)) leaves
    after_behind left answer Output ends usable stops leaves = answer_behind left answer usable leaves

module _ (old mid new : State) (failed : DiskFailed mid new → DiskFailed old new) (rest : List (Key × Command)) where
  -- what stands by the texts
  first_texts : (tables : Tables) (left : List (Key × Command)) (answer : Result Verdict StoreFault) → left ≢ [] → AnswersFirst tables left mid new answer
      → AnswersFirst tables (left ++ rest) old new answer
  first_texts tables [] answer some told = absurd (some refl)
  first_texts tables (next ∷ left) answer some told =
      record { damage = λ damaged. of_damage_since old mid new failed answer (told.damage damaged); leaves = told.leaves }

  ends_texts : (tables : Tables) (left : List (Key × Command)) (answer : Result Verdict StoreFault) (ending : Ending) → ending ≢ Complete → left ≢ []
      → EndsByText tables left mid new answer ending → EndsByText tables (left ++ rest) old new answer ending
  ends_texts tables left answer Complete ends some told = absurd (ends refl)
  ends_texts tables left answer (Stopped fault) ends some told = first_texts tables left (Err fault) some told
  ends_texts tables left answer Output ends some told = first_texts tables left answer some told

-- the same of a command that posts to a pair which wasn't paired before all of them
module _ (old mid new : State) (failed : DiskFailed mid new → DiskFailed old new) (rest : List (Key × Command)) (tables between : Tables)
    (back : (pair : Pair) → HavePaired pair between → HavePaired pair tables) where
  first_unpaired : (left : List (Key × Command)) (answer : Result Verdict StoreFault) → left ≢ [] → MeetsUnpairedFirst between left mid new answer
      → MeetsUnpairedFirst tables (left ++ rest) old new answer
  first_unpaired [] answer some meets = absurd (some refl)
  first_unpaired (next ∷ left) answer some meets = λ unpaired.
      of_damage_since old mid new failed answer (meets (λ found. unpaired (command_before tables between back next.1 found)))

  ends_unpaired : (left : List (Key × Command)) (answer : Result Verdict StoreFault) (ending : Ending) → ending ≢ Complete → left ≢ []
      → EndsUnpaired between left mid new answer ending → EndsUnpaired tables (left ++ rest) old new answer ending
  ends_unpaired left answer Complete ends some meets = absurd (ends refl)
  ends_unpaired left answer (Stopped fault) ends some meets = first_unpaired left (Err fault) some meets
  ends_unpaired left answer Output ends some meets = first_unpaired left answer some meets

-- ---- what a stop leaves

module _ (entries : List Entry) (commands : List (Key × Command)) (verdicts : List Verdict) (book : List Entry) (old new : State)
    (could : (trees : Trees) → old.may_leave trees → Left trees entries) where
  session_more : (next : Key × Command) (left : List (Key × Command)) (verdict : Verdict) (after : List Entry) → Session entries commands verdicts book (next ∷ left)
      → JudgesOn book next.0 next.1 verdict after → Session entries commands (verdicts ++ verdict ∷ []) after left
  session_more next left verdict after on judges = record {
    done = on.done ++ next ∷ [];
    split = on.split ∙ sym (append_assoc on.done (next ∷ []) left);
    judged = judges_more entries on.done verdicts book after next verdict on.judged judges;
  }

  judged_stops : (left : List (Key × Command)) → Session entries commands verdicts book left → (trees : Trees) → LeavesJudged old.may_leave verdicts book trees
      → LeavesStopped entries commands verdicts trees
  judged_stops left on trees (inl there) = (book, inl (left, on), there)
  judged_stops left on trees (inr (none, may)) = (
    entries,
    inl (commands, record { done = []; split = refl; judged = subst (λ (vs : List Verdict). JudgesAll entries [] vs entries) (sym none) refl }),
    could trees may,
  )

  next_stops : (left : List (Key × Command)) → Session entries commands verdicts book left → (trees : Trees) → LeavesNext old.may_leave verdicts book left trees
      → LeavesStopped entries commands verdicts trees
  next_stops [] on trees leaves = judged_stops [] on trees leaves
  next_stops (next ∷ left) on trees (inl leaves) = judged_stops (next ∷ left) on trees leaves
  next_stops (next ∷ left) on trees (inr (after, judges, there)) = (after, inr (left, session_more next left Accepted after on judges), there)

  fault_stops : (fault : StoreFault) (left : List (Key × Command)) → Session entries commands verdicts book left → LeavesAtFault fault verdicts book left old new
      → (trees : Trees) → new.may_leave trees → LeavesStopped entries commands verdicts trees
  fault_stops Device left on (stands, leaves, cause) trees may = judged_stops left on trees (leaves trees may)
  fault_stops NeedsReopen left on (none, stands, leaves) trees may = judged_stops left on trees (leaves trees may)
  fault_stops Damaged left on none trees may = absurd none
  fault_stops InDoubt left on (stands, leaves, cause) trees may = next_stops left on trees (leaves trees may)
  fault_stops Memory left on (stands, leaves) trees may = next_stops left on trees (leaves trees may)

  -- a command that isn't accepted leaves the book
  verdict_stops : (verdict : Verdict) (left : List (Key × Command)) → Session entries commands verdicts book left → LeavesAtVerdict verdict verdicts book left old new
      → (trees : Trees) → new.may_leave trees → LeavesStopped entries commands verdicts trees
  verdict_stops verdict [] on none trees may = absurd none
  verdict_stops verdict (next ∷ left) on (after, judges, stands, leaves) trees may = elim (leaves trees may) [
    | inl there ↦ stopped verdict judges there
    | inr (none, was) ↦ absurd (not_nil verdicts verdict none)
  ]
    where
      stopped : (v : Verdict) → JudgesOn book next.0 next.1 v after → Left trees after → LeavesStopped entries commands verdicts trees
      stopped Accepted one there = (after, inr (left, session_more next left Accepted after on one), there)
      stopped Repeated one there = (book, inl (next ∷ left, on), subst (Left trees) one.1 there)
      stopped (Refused refusal) one there = (book, inl (next ∷ left, on), subst (Left trees) one.1 there)

  answer_stops : (answer : Result Verdict StoreFault) (left : List (Key × Command)) → Session entries commands verdicts book left → LeavesAtAnswer answer verdicts book left old new
      → (trees : Trees) → new.may_leave trees → LeavesStopped entries commands verdicts trees
  answer_stops (Ok verdict) left on = verdict_stops verdict left on
  answer_stops (Err fault) left on = fault_stops fault left on

  stops : (answer : Result Verdict StoreFault) (ending : Ending) (left : List (Key × Command)) → Session entries commands verdicts book left
      → LeavesAfter verdicts book left old new answer ending → (trees : Trees) → new.may_leave trees → LeavesStopped entries commands verdicts trees
  stops answer Complete left on (all, stands, leaves) trees may = judged_stops left on trees (leaves trees may)
  stops answer (Stopped fault) left on leaves trees may = fault_stops fault left on leaves trees may
  stops answer Output left on leaves trees may = answer_stops answer left on leaves trees may

-- a run of commands with numbers, from what it wrote and what it left
pub run_of : (numbers : List ℕ) (commands : List (Key × Command)) (old new : State) (before written : Option (List ℕ)) (answer : Result Verdict StoreFault) (ending : Ending) (verdicts : List Verdict)
    → LeavesWhatStands old
    → (HasCleanDisk new → (entries : List Entry) → Stands old entries → WritesEndBy numbers verdicts answer ending before written)
    → (FollowOneAnother numbers → WritesEnd (first_number numbers) verdicts answer ending before written)
    → EndsBehind (length commands) (length verdicts) answer ending
    → (HasCleanDisk new → (entries : List Entry) → Stands old entries
    → (book : List Entry) × (left : List (Key × Command)) × Session entries commands verdicts book left × LeavesAfter verdicts book left old new answer ending)
    → Survives old new (λ trees. (entries : List Entry) → Stands old entries → LeavesFirst entries commands trees)
    → (HasCleanDisk new → (tables : Tables) → Has old tables → RunsByText tables commands verdicts old new answer ending)
    → RunsNumbered numbers commands old new before written answer (record { replied = length verdicts; refused = count_refused verdicts; ending = ending })
run_of numbers commands old new before written answer ending verdicts stands_so lines in_a_row place session crash texts = record {
  verdicts = verdicts;
  replied = refl;
  refused = refl;
  lines = lines;
  in_a_row = in_a_row;
  place = place;
  session = session;
  stop = λ clean opened entries stands.
      let on = session clean entries stands in
      stops entries commands verdicts on.0 old new (stands_so (omega (arith, clean, crash.clean)) opened entries stands) answer ending on.1 on.2 on.3;
  crash = crash;
  texts = texts;
}

-- ---- the stretches so far

-- on a book each verdict is replied to with the number of its command
pub record Replied (numbers : List ℕ) (verdicts : List Verdict) (before written : Option (List ℕ)) : Type 0 where
  pub as_many : length numbers ≡ length verdicts
  pub lines : Appends before written (replies_by numbers verdicts)

-- Commands were judged in the place of the first of those that were handed in, and replied to.
pub record Done (rounding : Option Rounding) (numbers : List ℕ) (asked : List (Key × Asked)) (turned : List (Key × Command)) (status : Status)
    (old now : State) (before written : Option (List ℕ)) : Type 0 where
  pub verdicts : List Verdict
  pub all : length turned ≡ length verdicts
  pub sums : status ≡ status_ending Complete (count_refused verdicts)
  pub replied : HasCleanDisk now → (entries : List Entry) → Stands old entries → Replied numbers verdicts before written
  pub judged : HasCleanDisk now → (entries : List Entry) → Stands old entries
      → (book : List Entry) × AreTurnedOn rounding entries asked turned verdicts book × Stands now book
      × ((trees : Trees) → now.may_leave trees → LeavesJudged old.may_leave verdicts book trees)
  pub crash : Survives old now (λ trees. (entries : List Entry) → Stands old entries → LeavesFirst entries turned trees)
  pub texts : HasCleanDisk now → (tables : Tables) → Has old tables → (after : Tables) × TurnAllByText tables turned verdicts after × Has now after
  pub paired : HasCleanDisk now → (tables : Tables) → Has old tables → AllByRecursion (λ (keyed : Key × Command). HavePairedFor keyed.1 tables) turned

pub done_none : (rounding : Option Rounding) (old : State) (before : Option (List ℕ)) → Done rounding [] [] [] AllAccepted old old before before
done_none rounding old before = record {
  verdicts = [];
  all = refl;
  sums = refl;
  replied = λ clean entries stands. record { as_many = refl; lines = Appends-nil before };
  judged = λ clean entries stands. (entries, refl, stands, λ trees may. inr (refl, may));
  crash = survives_same old _;
  texts = λ clean tables has. (tables, refl, has);
  paired = λ clean tables has. tt;
}

-- all of them are a run
pub done_all : (rounding : Option Rounding) (numbers : List ℕ) (asked : List (Key × Asked)) (turned : List (Key × Command)) (status : Status) (old now : State)
    (before written : Option (List ℕ)) (calls : WritesMade) → LeavesWhatStands old → ¬ FollowOneAnother numbers
    → Done rounding numbers asked turned status old now before written → (IsFlushed calls.before → AllFlushed calls)
    → (end : RunEnd) × RunsEach rounding numbers asked old now before written calls end × (status ≡ status_of_run end)
done_all rounding numbers asked turned status old now before written calls stands_so apart so out = (
  record { replied = length so.verdicts; refused = count_refused so.verdicts; ending = Complete },
  record {
    turned = turned;
    answer = Ok Accepted;
    session = run_of numbers turned old now before written (Ok Accepted) Complete so.verdicts stands_so (λ clean entries stands. (so.replied clean entries stands).lines)
        (λ follow. absurd (apart follow)) (sym so.all)
        (λ clean entries stands.
        let was = so.judged clean entries stands in (
          was.0,
          [],
          record { done = turned; split = sym (append-nil turned); judged = turns_judge rounding entries asked turned so.verdicts was.0 was.1 },
          (refl, was.2, was.3),
        )) so.crash
        (λ clean tables has.
        let was = so.texts clean tables has in
        record { done = turned; left = []; split = sym (append-nil turned); after = was.0; turn = was.1; ends = (refl, was.2); paired = so.paired clean tables has; unpaired = tt });
    are_turned = λ clean entries stands.
        let was = so.judged clean entries stands in
        record {
          verdicts = so.verdicts;
          counted = refl;
          first = asked;
          rest = [];
          asked_are = sym (append-nil asked);
          done = turned;
          left = [];
          turned_are = sym (append-nil turned);
          book = was.0;
          turns = was.1;
          next = tt;
        };
    never_reopens = ((λ is. absurd cc), λ is. absurd cc);
    output = out;
  },
  so.sums,
)

-- ---- one stretch more

-- commands that were all judged are turned with those verdicts
module _ (rounding : Option Rounding) (entries : List Entry) (asked : List (Key × Asked)) (turned : List (Key × Command)) (verdicts : List Verdict) (book : List Entry)
    (judged : JudgesAll entries turned verdicts book) where
  none_left : (mark : Bool) (on : List Entry) (rest : List (Key × Asked)) → AreLeft mark rounding on rest [] → rest ≡ []
  none_left mark on [] next = refl
  none_left mark on (one ∷ rest) next = absurd next

  all_turned : (replied : ℕ) (answer : Result Verdict StoreFault) → replied ≡ length turned → AreTurned rounding entries asked turned replied answer
      → AreTurnedOn rounding entries asked turned verdicts book
  all_turned replied answer all are =
      let count = turns_count rounding entries are.book are.first are.done are.verdicts are.turns in
      let no_command : are.left ≡ [] = no_more are.done are.left turned are.verdicts are.turned_are count.1 (sym are.counted ∙ all) in
      let none : are.rest ≡ [] = none_left (is_judged answer) are.book are.rest (subst (AreLeft (is_judged answer) rounding are.book are.rest) no_command are.next) in
      let same_asked : asked ≡ are.first = are.asked_are ∙ ap (λ (as_ : List (Key × Asked)). are.first ++ as_) none ∙ append-nil are.first in
      let same_turned : turned ≡ are.done = are.turned_are ∙ ap (λ (cs : List (Key × Command)). are.done ++ cs) no_command ∙ append-nil are.done in
      let turns : AreTurnedOn rounding entries asked turned are.verdicts are.book =
      subst (λ (as_ : List (Key × Asked)). AreTurnedOn rounding entries as_ turned are.verdicts are.book) (sym same_asked)
      (subst (λ (cs : List (Key × Command)). AreTurnedOn rounding entries are.first cs are.verdicts are.book) (sym same_turned) are.turns) in
      let alike = judged_alike entries turned are.verdicts verdicts are.book book (turns_judge rounding entries asked turned are.verdicts are.book turns) judged in
      subst (λ (vs : List Verdict). AreTurnedOn rounding entries asked turned vs book) alike.0
      (subst (AreTurnedOn rounding entries asked turned are.verdicts) alike.1 turns)

-- as many were judged in the place of those that were handed in
module _ (rounding : Option Rounding) (entries : List Entry) (asked : List (Key × Asked)) (turned : List (Key × Command)) (replied : ℕ) (answer : Result Verdict StoreFault) where
  left_count : (mark : Bool) (book : List Entry) (rest : List (Key × Asked)) (left : List (Key × Command)) → AreLeft mark rounding book rest left → length left ≡ length rest
  left_count mark book [] [] next = refl
  left_count mark book [] (t ∷ left) next = absurd next
  left_count mark book (a ∷ rest) [] next = absurd next
  left_count mark book (a ∷ rest) (t ∷ left) (last, same) = ap suc (ap length same ∙ handed_count rest)
    where
      handed_count : (xs : List (Key × Asked)) → length (map handed xs) ≡ length xs
      handed_count [] = refl
      handed_count (x ∷ xs) = ap suc (handed_count xs)

  as_asked : AreTurned rounding entries asked turned replied answer → length turned ≡ length asked
  as_asked are =
      let count = turns_count rounding entries are.book are.first are.done are.verdicts are.turns in
      omega (
        arith,
        ap length are.turned_are,
        ap length are.asked_are,
        length-append are.done are.left,
        length-append are.first are.rest,
        count.0,
        count.1,
        left_count (is_judged answer) are.book are.rest are.left are.next,
      )

module _ (rounding : Option Rounding) (numbers later : List ℕ) (asked stretch rest : List (Key × Asked)) (done : List (Key × Command)) (from : ℕ) (status : Status)
    (old mid new : State) (before between written : Option (List ℕ)) (so : Done rounding numbers asked done status old mid before between)
    (turned : List (Key × Command)) (answer : Result Verdict StoreFault) (end : RunEnd) (ran : RunsSession turned from mid new between written answer end)
    (are : HasCleanDisk new → (entries : List Entry) → Stands mid entries → AreTurned rounding entries stretch turned end.replied answer) where
  abbrev theirs : List ℕ
  theirs = range_with_len from (length stretch)

  abbrev vs : List Verdict
  vs = so.verdicts

  abbrev ws : List Verdict
  ws = ran.verdicts

  clean_mid : HasCleanDisk new → HasCleanDisk mid
  clean_mid clean = omega (arith, clean, ran.crash.clean)

  -- the crash leaves the first of all
  crash_behind : (others : List (Key × Command)) → Survives old new (λ trees. (entries : List Entry) → Stands old entries → LeavesFirst entries (done ++ (turned ++ others)) trees)
  crash_behind others = survives_then old mid new (λ trees. (entries : List Entry) → Stands old entries → LeavesFirst entries done trees)
      (λ trees. (entries : List Entry) → Stands mid entries → LeavesFirst entries turned trees)
      (λ trees. (entries : List Entry) → Stands old entries → LeavesFirst entries (done ++ (turned ++ others)) trees)
      (λ clean trees leaves entries stands. first_more entries done (turned ++ others) trees (leaves entries stands))
      (λ clean trees leaves entries stands.
      let was = so.judged (clean_mid clean) entries stands in
      first_behind entries was.0 done vs (turns_judge rounding entries asked done vs was.0 was.1) others turned trees (leaves was.0 was.2)) so.crash ran.crash

  -- the replies to all of them, and the number of the command behind them
  module _ (as_many : length numbers ≡ length vs) where
    replies_behind : length ws ≤ length stretch → replies_by (numbers ++ (theirs ++ later)) (vs ++ ws) ≡ replies_by numbers vs ++ replies from ws
    replies_behind few =
        replies_append numbers (theirs ++ later) vs ws as_many
        ∙ ap (λ text. replies_by numbers vs ++ text)
        (replies_first theirs later ws (omega (arith, few, length-range_with_len from (length stretch))) ∙ replies_in_a_row from (length stretch) ws few)

    number_behind : length ws < length stretch → number_at (numbers ++ (theirs ++ later)) (length (vs ++ ws)) ≡ length ws + from
    number_behind few =
        let count : length theirs ≡ length stretch = length-range_with_len from (length stretch) in
        let other = get_or (numbers ++ (theirs ++ later)) 0 1 in
        ap (λ n. get_or (numbers ++ (theirs ++ later)) n other) place ∙ get_or-append-add numbers (theirs ++ later) (length ws) other
        ∙ get_or_append_left theirs later other (length ws) (omega (arith, few, count))
        ∙ get_or-range_with_len from (length stretch) (length ws) other few ∙ swapped
      where
        place : length (vs ++ ws) ≡ length numbers + length ws
        place = omega (arith, as_many, length-append vs ws)

        swapped : from + length ws ≡ length ws + from
        swapped = omega arith

  -- ---- a stretch that is complete

  module _ (complete : end.ending ≡ Complete) where
    all_judged : length ws ≡ length turned
    all_judged = subst (EndsBehind (length turned) (length ws) answer) complete ran.place

    replied_more : HasCleanDisk new → (entries : List Entry) → Stands old entries → Replied (numbers ++ theirs) (vs ++ ws) before written
    replied_more clean entries stands =
        let was = so.judged (clean_mid clean) entries stands in
        let replied = so.replied (clean_mid clean) entries stands in
        let count = as_asked rounding was.0 stretch turned end.replied answer (are clean was.0 was.2) in
        let here : length ws ≡ length stretch = all_judged ∙ count in
        let both : replies_by (numbers ++ theirs) (vs ++ ws) ≡ replies_by numbers vs ++ replies from ws =
        replies_append numbers theirs vs ws replied.as_many ∙ ap (λ text. replies_by numbers vs ++ text) (replies_in_a_row from (length stretch) ws (omega (arith, here))) in record {
          as_many = omega (arith, length-append numbers theirs, length-append vs ws, replied.as_many, length-range_with_len from (length stretch), here);
          lines = subst (Appends before written) (sym both)
              (Appends-trans before between written (replies_by numbers vs) (replies from ws) replied.lines
              (subst (λ (ending : Ending). WritesEnd from ws answer ending between written) complete ran.writes.lines));
        }

    judged_more : HasCleanDisk new → (entries : List Entry) → Stands old entries
        → (book : List Entry) × AreTurnedOn rounding entries (asked ++ stretch) (done ++ turned) (vs ++ ws) book × Stands new book
        × ((trees : Trees) → new.may_leave trees → LeavesJudged old.may_leave (vs ++ ws) book trees)
    judged_more clean entries stands =
        let was = so.judged (clean_mid clean) entries stands in
        let on = ran.session clean was.0 was.2 in
        let after : LeavesAfter ws on.0 on.1 mid new answer Complete = subst (LeavesAfter ws on.0 on.1 mid new answer) complete on.3 in
        let whole : turned ≡ on.2.done = on.2.split ∙ ap (λ (cs : List (Key × Command)). on.2.done ++ cs) after.0 ∙ append-nil on.2.done in
        let judged : JudgesAll was.0 turned ws on.0 = subst (λ (cs : List (Key × Command)). JudgesAll was.0 cs ws on.0) (sym whole) on.2.judged in
        let turns : AreTurnedOn rounding was.0 stretch turned ws on.0 =
        all_turned rounding was.0 stretch turned ws on.0 judged end.replied answer (ran.writes.replied ∙ all_judged) (are clean was.0 was.2) in (
          on.0,
          turns_append rounding entries was.0 on.0 asked stretch done turned vs ws was.1 turns,
          after.1,
          λ trees may. judged_behind old mid new vs was.0 was.3 (failed_since old mid new _ _ (clean_mid clean) so.crash ran.crash) [] ws on.0
              (judges_none was.0 on.0 turned ws judged) trees (after.2 trees may),
        )

    pub stretch_more : (next : Status) → next ≡ status_ending Complete (count_refused (vs ++ ws))
        → Done rounding (numbers ++ theirs) (asked ++ stretch) (done ++ turned) next old new before written
    stretch_more next sums = record {
      verdicts = vs ++ ws;
      all = omega (arith, length-append done turned, length-append vs ws, so.all, all_judged);
      sums = sums;
      replied = replied_more;
      judged = judged_more;
      crash = subst (λ (cs : List (Key × Command)). Survives old new (λ trees. (entries : List Entry) → Stands old entries → LeavesFirst entries (done ++ cs) trees))
          (append-nil turned) (crash_behind []);
      texts = λ clean tables has.
          let was = so.texts (clean_mid clean) tables has in
          let it = ran.texts clean was.0 was.2 in
          let ends : EndsByText it.after it.left mid new answer Complete = subst (EndsByText it.after it.left mid new answer) complete it.ends in
          let whole : turned ≡ it.done = it.split ∙ ap (λ (cs : List (Key × Command)). it.done ++ cs) ends.0 ∙ append-nil it.done in (
            it.after,
            texts_append tables was.0 it.after done turned vs ws was.1 (subst (λ (cs : List (Key × Command)). TurnAllByText was.0 cs ws it.after) (sym whole) it.turn),
            ends.1,
          );
      paired = λ clean tables has.
          let was = so.texts (clean_mid clean) tables has in
          let it = ran.texts clean was.0 was.2 in
          let first = so.paired (clean_mid clean) tables has in
          let ends : EndsByText it.after it.left mid new answer Complete = subst (EndsByText it.after it.left mid new answer) complete it.ends in
          let whole : turned ≡ it.done = it.split ∙ ap (λ (cs : List (Key × Command)). it.done ++ cs) ends.0 ∙ append-nil it.done in
          all-append (λ (keyed : Key × Command). HavePairedFor keyed.1 tables) done turned first
          (commands_before tables was.0 (paired_before tables done vs was.0 was.1 first) turned
          (subst (AllByRecursion (λ (keyed : Key × Command). HavePairedFor keyed.1 was.0)) (sym whole) it.paired));
    }

  -- ---- a stretch at which the run ends

  module _ (ends : end.ending ≢ Complete) (usable : answer ≢ Err NeedsReopen) (stops_not : end.ending ≢ Stopped NeedsReopen) where
    abbrev others : List (Key × Command)
    others = map handed rest

    abbrev all_of : List (Key × Command)
    all_of = done ++ (turned ++ others)

    few : length ws < length turned
    few = stops_within (length turned) (length ws) answer end.ending ends usable stops_not ran.place

    place_behind : EndsBehind (length all_of) (length (vs ++ ws)) answer end.ending
    place_behind = by end.ending ends
      where
        within : length (vs ++ ws) < length all_of
        within = omega (arith, few, so.all, length-append vs ws, length-append done (turned ++ others), length-append turned others)

        by : (ending : Ending) → ending ≢ Complete → EndsBehind (length all_of) (length (vs ++ ws)) answer ending
        by Complete apart = absurd (apart refl)
        by (Stopped fault) apart = inl within
        by Output apart = inl within

    module _ (replied : Replied numbers vs before between) (count : length turned ≡ length stretch) where
      small : length ws < length stretch
      small = omega (arith, few, count)

      joined : (text : List ℕ) → (replies_by numbers vs ++ (replies from ws ++ text)) ≡ replies_by (numbers ++ (theirs ++ later)) (vs ++ ws) ++ text
      joined text =
          sym (append_assoc (replies_by numbers vs) (replies from ws) text)
          ∙ ap (λ (front : List ℕ). front ++ text) (sym (replies_behind replied.as_many (omega (arith, small))))

      lines_of : (ending : Ending) → ending ≢ Complete → WritesEnd from ws answer ending between written
          → WritesEndBy (numbers ++ (theirs ++ later)) (vs ++ ws) answer ending before written
      lines_of Complete apart lines = absurd (apart refl)
      lines_of (Stopped fault) apart lines =
          subst (λ n. Appends before written (replies_by (numbers ++ (theirs ++ later)) (vs ++ ws) ++ fault_line n fault)) (sym (number_behind replied.as_many small))
          (subst (Appends before written) (joined (fault_line (length ws + from) fault))
          (Appends-trans before between written (replies_by numbers vs) (replies from ws ++ fault_line (length ws + from) fault) replied.lines lines))
      lines_of Output apart (prefix, is_prefix, lines) = (
        prefix,
        subst (λ n. IsPrefixOf prefix (answer_line n answer)) (sym (number_behind replied.as_many small)) is_prefix,
        subst (Appends before written) (joined prefix)
            (Appends-trans before between written (replies_by numbers vs) (replies from ws ++ prefix) replied.lines lines),
      )

    lines_behind : HasCleanDisk new → (entries : List Entry) → Stands old entries
        → WritesEndBy (numbers ++ (theirs ++ later)) (vs ++ ws) answer end.ending before written
    lines_behind clean entries stands =
        let was = so.judged (clean_mid clean) entries stands in
        lines_of (so.replied (clean_mid clean) entries stands) (as_asked rounding was.0 stretch turned end.replied answer (are clean was.0 was.2)) end.ending ends ran.writes.lines

    session_ends : HasCleanDisk new → (entries : List Entry) → Stands old entries
        → (book : List Entry) × (left : List (Key × Command)) × Session entries all_of (vs ++ ws) book left × LeavesAfter (vs ++ ws) book left old new answer end.ending
    session_ends clean entries stands =
        let was = so.judged (clean_mid clean) entries stands in
        let on = ran.session clean was.0 was.2 in (
          on.0,
          on.1 ++ others,
          session_behind entries was.0 done vs (turns_judge rounding entries asked done vs was.0 was.1) others turned ws on.0 on.1 on.2,
          after_behind old mid new vs was.0 was.3 (failed_since old mid new _ _ (clean_mid clean) so.crash ran.crash) others ws on.0
              (judges_none was.0 on.0 on.2.done ws on.2.judged) on.1 answer end.ending ends usable stops_not on.3,
        )

    texts_ends : HasCleanDisk new → (tables : Tables) → Has old tables → RunsByText tables all_of (vs ++ ws) old new answer end.ending
    texts_ends clean tables has =
        let was = so.texts (clean_mid clean) tables has in
        let it = ran.texts clean was.0 was.2 in
        let first = so.paired (clean_mid clean) tables has in
        let back = paired_before tables done vs was.0 was.1 first in
        let since = failed_since old mid new _ _ (clean_mid clean) so.crash ran.crash in
        let some = some_left it.done it.left turned ws it.split (texts_count was.0 it.after it.done ws it.turn) few in record {
          done = done ++ it.done;
          left = it.left ++ others;
          split = ap (λ (cs : List (Key × Command)). done ++ (cs ++ others)) it.split ∙ shift done it.done it.left others;
          after = it.after;
          turn = texts_append tables was.0 it.after done it.done vs ws was.1 it.turn;
          ends = ends_texts old mid new since others it.after it.left answer end.ending ends some it.ends;
          paired = all-append (λ (keyed : Key × Command). HavePairedFor keyed.1 tables) done it.done first (commands_before tables was.0 back it.done it.paired);
          unpaired = ends_unpaired old mid new since others tables was.0 back it.left answer end.ending ends some it.unpaired;
        }

    turned_ends : HasCleanDisk new → (entries : List Entry) → Stands old entries
        → AreTurned rounding entries (asked ++ (stretch ++ rest)) all_of (length (vs ++ ws)) answer
    turned_ends clean entries stands =
        let was = so.judged (clean_mid clean) entries stands in
        let it = are clean was.0 was.2 in
        let count = turns_count rounding was.0 it.book it.first it.done it.verdicts it.turns in record {
          verdicts = vs ++ it.verdicts;
          counted = omega (arith, it.counted, ran.writes.replied, length-append vs it.verdicts, length-append vs ws);
          first = asked ++ it.first;
          rest = it.rest ++ rest;
          asked_are = ap (λ (as_ : List (Key × Asked)). asked ++ (as_ ++ rest)) it.asked_are ∙ shift asked it.first it.rest rest;
          done = done ++ it.done;
          left = it.left ++ others;
          turned_are = ap (λ (cs : List (Key × Command)). done ++ (cs ++ others)) it.turned_are ∙ shift done it.done it.left others;
          book = it.book;
          turns = turns_append rounding entries was.0 it.book asked it.first done it.done vs it.verdicts was.1 it.turns;
          next = left_behind (is_judged answer) it.book it.rest it.left
              (some_left it.done it.left turned it.verdicts it.turned_are count.1 (omega (arith, sym it.counted, ran.writes.replied, few))) it.next;
        }
      where
        handed_append : (xs ys : List (Key × Asked)) → map handed xs ++ map handed ys ≡ map handed (xs ++ ys)
        handed_append [] ys = refl
        handed_append (x ∷ xs) ys = ap (λ (cs : List (Key × Command)). handed x ∷ cs) (handed_append xs ys)

        left_behind : (mark : Bool) (book : List Entry) (first : List (Key × Asked)) (left : List (Key × Command)) → left ≢ [] → AreLeft mark rounding book first left
            → AreLeft mark rounding book (first ++ rest) (left ++ others)
        left_behind mark book [] [] some next = absurd (some refl)
        left_behind mark book [] (t ∷ left) some next = absurd next
        left_behind mark book (a ∷ first) [] some next = absurd next
        left_behind mark book (a ∷ first) (t ∷ left) some (last, same) =
            (last, ap (λ (cs : List (Key × Command)). cs ++ others) same ∙ handed_append first rest)

    pub stretch_ends : (calls : WritesMade) → LeavesWhatStands old → ¬ FollowOneAnother (numbers ++ (theirs ++ later))
        → (IsFlushed calls.before → IsWrittenOut end.ending calls)
        → (last : RunEnd) × RunsEach rounding (numbers ++ (theirs ++ later)) (asked ++ (stretch ++ rest)) old new before written calls last
        × (IsStopped ≡ status_of_run last)
    stretch_ends calls stands_so apart out = (
      record { replied = length (vs ++ ws); refused = count_refused (vs ++ ws); ending = end.ending },
      record {
        turned = all_of;
        answer = answer;
        session = run_of (numbers ++ (theirs ++ later)) all_of old new before written answer end.ending (vs ++ ws) stands_so lines_behind
            (λ follow. absurd (apart follow)) place_behind session_ends (crash_behind others) texts_ends;
        are_turned = turned_ends;
        never_reopens = (usable, stops_not);
        output = out;
      },
      stopped end.ending ends,
    )
      where
        stopped : (ending : Ending) → ending ≢ Complete → IsStopped ≡ status_ending ending (count_refused (vs ++ ws))
        stopped Complete apart = absurd (apart refl)
        stopped (Stopped fault) apart = refl
        stopped Output apart = refl

-- ---- the status so far

-- none of the next ones is refused
pub status_same : (status : Status) (before more : ℕ) → status ≡ status_ending Complete before → more ≡ 0 → status ≡ status_ending Complete (before + more)
status_same status before more is none = is ∙ ap (status_ending Complete) same
  where
    same : before ≡ before + more
    same = omega (arith, none)

-- one of them is
pub status_more : (before more : ℕ) → 0 < more → SomeRefused ≡ status_ending Complete (before + more)
status_more before zero some = let none : ⊥ = omega (arith, some) in absurd none
status_more before (suc more) some = ap (status_ending Complete) counted
  where
    counted : suc (before + more) ≡ before + suc more
    counted = omega arith

-- ---- one stretch in the lists of all

three_parts : {A : Type 0} (xs : List A) (at end : ℕ) → at ≤ end → take at xs ++ (slice_range xs at end ++ drop end xs) ≡ xs
three_parts xs at end before = ap (λ (ys : List _). take at xs ++ ys) (sym (drop_split xs at end before)) ∙ take-append-drop at xs

module _ (rounding : Option Rounding) (numbers : List ℕ) (asked : List (Key × Asked)) (at count from : ℕ) (status : Status) (old mid new : State)
    (before between written : Option (List ℕ)) (done : List (Key × Command)) (as_many : length numbers ≡ length asked) (within : count ≤ length (drop at numbers))
    (follow : take count (drop at numbers) ≡ range_with_len from count) (so : Done rounding (take at numbers) (take at asked) done status old mid before between)
    (was condition : Condition) (end : RunEnd) (ready : was ≡ Ready)
    (ran : RunsTurned rounding (slice_range asked at (at + count)) from mid new between written was condition end) where
  abbrev stretch : List (Key × Asked)
  stretch = slice_range asked at (at + count)

  behind : at ≤ at + count
  behind = omega arith

  long : length stretch ≡ count
  long = length-take-le (at + count - at) (drop at asked) (omega (arith, within, as_many, length-drop at numbers, length-drop at asked)) ∙ same
    where
      same : at + count - at ≡ count
      same = omega arith

  theirs_are : range_with_len from (length stretch) ≡ slice_range numbers at (at + count)
  theirs_are = ap (range_with_len from) long ∙ sym follow ∙ ap (λ n. take n (drop at numbers)) same
    where
      same : count ≡ at + count - at
      same = omega arith

  numbers_are : take at numbers ++ (range_with_len from (length stretch) ++ drop (at + count) numbers) ≡ numbers
  numbers_are =
      ap (λ (ns : List ℕ). take at numbers ++ (ns ++ drop (at + count) numbers)) theirs_are ∙ three_parts numbers at (at + count) behind

  more_of : {A : Type 0} (xs : List A) → take at xs ++ slice_range xs at (at + count) ≡ take (at + count) xs
  more_of xs = ap (λ n. take at xs ++ take n (drop at xs)) same ∙ sym (take-add at count xs)
    where
      same : at + count - at ≡ count
      same = omega arith

  -- it is complete
  pub goes_on : (next : Status) → end.ending ≡ Complete → next ≡ status_ending Complete (count_refused so.verdicts + end.refused)
      → (turned : List (Key × Command)) × Done rounding (take (at + count) numbers) (take (at + count) asked) turned next old new before written
  goes_on next complete sums = (
    done ++ ran.0,
    subst (λ (ns : List ℕ). Done rounding ns (take (at + count) asked) (done ++ ran.0) next old new before written)
        (ap (λ (ns : List ℕ). take at numbers ++ ns) theirs_are ∙ more_of numbers)
        (subst (λ (as_ : List (Key × Asked)). Done rounding (take at numbers ++ range_with_len from (length stretch)) as_ (done ++ ran.0) next old new before written)
        (more_of asked)
        (stretch_more rounding (take at numbers) [] (take at asked) stretch [] done from status old mid new before between written so ran.0 ran.1.0 end ran.1.1 ran.2 complete next
        (sums ∙ ap (λ n. status_ending Complete (count_refused so.verdicts + n)) ran.1.1.writes.refused
        ∙ ap (status_ending Complete) (sym (refused_append so.verdicts ran.1.1.verdicts))))),
  )

  -- the run ends at it
  pub ends_there : end.ending ≢ Complete → (was ≡ Ready → end.ending ≢ Stopped NeedsReopen) → (calls : WritesMade) → LeavesWhatStands old → ¬ FollowOneAnother numbers
      → (IsFlushed calls.before → IsWrittenOut end.ending calls)
      → (last : RunEnd) × RunsEach rounding numbers asked old new before written calls last × (IsStopped ≡ status_of_run last)
  ends_there ends stops calls stands_so apart out =
      let it = stretch_ends rounding (take at numbers) (drop (at + count) numbers) (take at asked) stretch (drop (at + count) asked) done from status old mid new before between written so
      ran.0 ran.1.0 end ran.1.1 ran.2 ends (ran.1.2 ready) (stops ready) calls stands_so (subst (λ (ns : List ℕ). ¬ FollowOneAnother ns) (sym numbers_are) apart) out in (
        it.0,
        subst (λ (ns : List ℕ). RunsEach rounding ns asked old new before written calls it.0) numbers_are
            (subst (λ (as_ : List (Key × Asked)). RunsEach rounding (take at numbers ++ (range_with_len from (length stretch) ++ drop (at + count) numbers)) as_ old new before written calls it.0)
            (three_parts asked at (at + count) behind) it.1),
        it.2,
      )

-- they are all
pub all_done : (rounding : Option Rounding) (numbers : List ℕ) (asked : List (Key × Asked)) (at : ℕ) (turned : List (Key × Command)) (status : Status) (old now : State)
    (before written : Option (List ℕ)) (calls : WritesMade) → length numbers ≡ length asked → length numbers ≤ at → LeavesWhatStands old → ¬ FollowOneAnother numbers
    → Done rounding (take at numbers) (take at asked) turned status old now before written → (IsFlushed calls.before → AllFlushed calls)
    → (end : RunEnd) × RunsEach rounding numbers asked old now before written calls end × (status ≡ status_of_run end)
all_done rounding numbers asked at turned status old now before written calls as_many all stands_so apart so out =
    done_all rounding numbers asked turned status old now before written calls stands_so apart
    (subst (λ (ns : List ℕ). Done rounding ns asked turned status old now before written) (take_all at numbers all)
    (subst (λ (as_ : List (Key × Asked)). Done rounding (take at numbers) as_ turned status old now before written) (take_all at asked (omega (arith, as_many, all))) so)) out

-- a run that stops isn't complete
pub not_complete : (ending : Ending) → ((fault : StoreFault) × (ending ≡ Stopped fault)) ⊎ (ending ≡ Output) → ending ≢ Complete
not_complete ending (inl (fault, is)) complete = let both = sym is ∙ complete in absurd cc
not_complete ending (inr is) complete = let both = sym is ∙ complete in absurd cc

-- ---- numbers that follow one another

module _ (rounding : Option Rounding) (numbers : List ℕ) (asked : List (Key × Asked)) (from : ℕ) (as_many : length numbers ≡ length asked)
    (first : from ≡ first_number numbers) (follow : numbers ≡ range_with_len from (length numbers)) where
  by_numbers : (verdicts : List Verdict) (answer : Result Verdict StoreFault) (ending : Ending) (before written : Option (List ℕ)) → length verdicts ≤ length numbers
      → (ending ≢ Complete → length verdicts < length numbers) → WritesEnd from verdicts answer ending before written
      → WritesEndBy numbers verdicts answer ending before written
  by_numbers verdicts answer ending before written few within lines = by ending within lines
    where
      replies_are : replies from verdicts ≡ replies_by numbers verdicts
      replies_are = sym (replies_in_a_row from (length numbers) verdicts few) ∙ ap (λ (ns : List ℕ). replies_by ns verdicts) (sym follow)

      number_is : length verdicts < length numbers → length verdicts + from ≡ number_at numbers (length verdicts)
      number_is small = sym (number_in_a_row from (length numbers) (length verdicts) small) ∙ ap (λ (ns : List ℕ). number_at ns (length verdicts)) (sym follow)

      by : (ending : Ending) → (ending ≢ Complete → length verdicts < length numbers) → WritesEnd from verdicts answer ending before written
          → WritesEndBy numbers verdicts answer ending before written
      by Complete small lines = subst (Appends before written) replies_are lines
      by (Stopped fault) small lines =
          subst (λ n. Appends before written (replies_by numbers verdicts ++ fault_line n fault)) (number_is (small (λ is. absurd cc)))
          (subst (λ (text : List ℕ). Appends before written (text ++ fault_line (length verdicts + from) fault)) replies_are lines)
      by Output small (prefix, is_prefix, lines) = (
        prefix,
        subst (λ n. IsPrefixOf prefix (answer_line n answer)) (number_is (small (λ is. absurd cc))) is_prefix,
        subst (λ (text : List ℕ). Appends before written (text ++ prefix)) replies_are lines,
      )

  pub one_run : (old new : State) (before written : Option (List ℕ)) (calls : WritesMade) (was condition : Condition) (end : RunEnd) → was ≡ Ready
      → RunsTurned rounding asked from old new before written was condition end → (was ≡ Ready → end.ending ≢ Stopped NeedsReopen)
      → (IsFlushed calls.before → IsWrittenOut end.ending calls) → RunsEach rounding numbers asked old new before written calls end
  one_run old new before written calls was condition end ready (turned, (answer, ran, usable, known), are) stops out = record {
    turned = turned;
    answer = answer;
    session = record {
      verdicts = ran.verdicts;
      replied = ran.writes.replied;
      refused = ran.writes.refused;
      lines = λ clean entries stands.
          let count : length turned ≡ length asked = as_asked rounding entries asked turned end.replied answer (are clean entries stands) in
          by_numbers ran.verdicts answer end.ending before written (omega (arith, most end.ending ran.place, count, as_many))
          (λ ends. omega (arith, stops_within (length turned) (length ran.verdicts) answer end.ending ends (usable ready) (stops ready) ran.place, count, as_many))
          ran.writes.lines;
      in_a_row = λ in_order. subst (λ n. WritesEnd n ran.verdicts answer end.ending before written) first ran.writes.lines;
      place = ran.place;
      session = ran.session;
      stop = ran.stop;
      crash = ran.crash;
      texts = ran.texts;
    };
    are_turned = are;
    never_reopens = (usable ready, stops ready);
    output = out;
  }
    where
      most : (ending : Ending) → EndsBehind (length turned) (length ran.verdicts) answer ending → length ran.verdicts ≤ length turned
      most Complete place = omega (arith, place)
      most (Stopped fault) (inl within) = omega (arith, within)
      most (Stopped fault) (inr (is, none)) = omega (arith, none)
      most Output (inl within) = omega (arith, within)
      most Output (inr (is, none)) = omega (arith, none)

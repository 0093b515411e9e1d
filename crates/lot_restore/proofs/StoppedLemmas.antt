-- What was read and written where restoring ends with an error.
use Rattle.std.proofs.Common.{inl, inr, ◌≡◌, ◌∙◌, false, ℕ, List, [], ◌∷◌, ◌++◌, Err, None, Ok, OnErr, Option, Result, Some, ap, append-nil, append_assoc, refl, subst, sym}
use Rattle.std.specs.Prelude.{IfSome}
use Rattle.std.specs.Io.KnownBytes.{Appends, Consumes, prepend_known}
use Rattle.std.proofs.KnownBytes.{Appends-nil}
use Rattle.sqlite.specs.State.{HasCleanDisk, State}
use Rattle.sqlite.specs.declared.error.Error.{Error}
use Rattle.sqlite.specs.declared.error.Error.TheVariants.{SqliteFailure}
use Rattle.sqlite.specs.declared.error.ErrorCode.TheVariants as code
use Rattle.lot_book.specs.Facts.{Entry}
use Rattle.lot_book.specs.declared.verdict.Verdict.{Verdict}
use Rattle.lot_dump.specs.declared.head.Head.{Head}
use Rattle.lot_dump.proofs.LineLemmas.{between}
use Rattle.lot_parts.proofs.ReadLemmas.{cause_on, no_more_fail}
use Rattle.lot_parts.specs.Commands.{GoesOn, HasCauseOf, IsReadTo, SayAll, front_text}
use Rattle.lot_parts.specs.Dump.{Front, with_part}
use Rattle.lot_parts.specs.Reading.{Reading}
use Rattle.lot_parts.specs.declared.commands.CommandFault.{CommandFault}
use Rattle.lot_parts.specs.declared.commands.CommandFault.TheVariants.{Dump as OfDump, Text as OfLine}
use Rattle.lot_parts.specs.declared.commands.Next.TheVariants.{Command as NextCommand}
use Rattle.lot_parts.specs.declared.dumped.Dumped.{Dumped}
use Rattle.lot_io.specs.Writes.{WriteCalls}
use Rattle.lot_report.specs.Written.{WritesLine}
use Rattle.lot_report.specs.declared.line.PrintFault.{PrintFault}
use Rattle.lot_report.specs.declared.line.PrintFault.TheVariants as print
use Rattle.lot_store.specs.Run.{AppendsSome}
use Rattle.lot_io.specs.Reads.{ReadCalls, ReadsMade}
use Rattle.lot_stream.specs.Input.{NoneFailed}
use Rattle.lot_without.specs.declared.without.Without.{Without}
use Rattle.lot_restore.specs.Fault.{fault_of_print}
use Rattle.lot_restore.specs.LeftOut.{kept_of, unmet_of}
use Rattle.lot_restore.specs.Lines.{unmet_lines, verdict_line, verdict_lines}
use Rattle.lot_restore.specs.Restored.{Restores}
use Rattle.lot_restore.specs.Restoring.{Point, restored_outcome}
use Rattle.lot_restore.specs.SoFar.{JudgeFails}
use Rattle.lot_restore.specs.Stopped.{BeginsWith, ReadsIn, SaysSome, SaysSomeBehind, SaysSomeOf}
use Rattle.lot_restore.specs.declared.fault.RestoreFault.{RestoreFault}
use Rattle.lot_restore.specs.declared.fault.RestoreFault.TheVariants.{Book, Sum as OfSum, Text, Write}
use Rattle.lot_restore.specs.declared.restoration.Restoration.{Restoration}
use Rattle.lot_restore.specs.declared.restoring.Restored.{Restored}
use Rattle.lot_restore.proofs.LoopLemmas.{GoneOn}
use Rattle.lot_restore.proofs.SaidLemmas.{appends_both}
use Rattle.lot_restore.proofs.SoFarLemmas.{kept_more, lines_more, says_rise}

-- ---- the calls of the reader

text_cause_on : (old mid new : Option ReadCalls) (fault : CommandFault) → NoneFailed (between old mid) → HasCauseOf (between mid new) fault
    → HasCauseOf (between old new) fault
text_cause_on old mid new (OfLine line fault) one more = no_more_fail old mid new one more
text_cause_on old mid new (OfDump fault) one more = cause_on old mid new fault one more

pub reads_on : {A : Type 0} (old mid new : Option ReadCalls) (result : Result A RestoreFault) → NoneFailed (between old mid) → ReadsIn result (between mid new)
    → ReadsIn result (between old new)
reads_on old mid new (Ok done) one more = no_more_fail old mid new one more
reads_on old mid new (Err (Text fault)) one more = text_cause_on old mid new fault one more
reads_on old mid new (Err (Book fault)) one more = no_more_fail old mid new one more
reads_on old mid new (Err (OfSum fault)) one more = no_more_fail old mid new one more
reads_on old mid new (Err Write) one more = no_more_fail old mid new one more

-- a command that isn't judged is read
pub judge_reads : (A : Type 0) (r : Restoration) (next : Dumped) (s t : State) (calls : Option WriteCalls) (fault : RestoreFault) (old new : Option ReadCalls)
    → JudgeFails r next s t calls fault → NoneFailed (between old new) → ReadsIn {A = A} (Err fault) (between old new)
judge_reads A r next s t calls (Book fault) old new fails none = none
judge_reads A r next s t calls (Text fault) old new fails none = absurd fails
judge_reads A r next s t calls (OfSum fault) old new fails none = absurd fails
judge_reads A r next s t calls Write old new fails none = none

-- nor does what isn't printed say anything of the reader
pub print_reads : (A : Type 0) (fault : PrintFault) (calls : ReadsMade) → NoneFailed calls → ReadsIn {A = A} (Err (fault_of_print fault)) calls
print_reads A print.Write calls none = none
print_reads A print.Memory calls none = none

-- ---- a part of a text

pub all_some : (old new : Option (List ℕ)) (text : List ℕ) → Appends old new text → AppendsSome old new text
all_some old new text appends = (text, ([], sym (append-nil text)), appends)

pub none_some : (known : Option (List ℕ)) (text : List ℕ) → AppendsSome known known text
none_some known text = ([], (text, refl), Appends-nil known)

pub cut_some : (old new : Option (List ℕ)) (text : List ℕ) (fault : PrintFault) → WritesLine old new (Err fault) text → AppendsSome old new text
cut_some old new text print.Memory nothing = ([], (text, refl), nothing)
cut_some old new text print.Write (prefix, (byte, rest, whole), appends) = (prefix, (byte ∷ rest, whole), appends)

pub some_behind : (a b c : Option (List ℕ)) (x y : List ℕ) → Appends a b x → AppendsSome b c y → AppendsSome a c (x ++ y)
some_behind a b c x y first (prefix, (rest, whole), appends) = (
  x ++ prefix,
  (rest, ap (λ t. x ++ t) whole ∙ sym (append_assoc x prefix rest)),
  appends_both a b c x prefix first appends,
)

some_in_front : (a b : Option (List ℕ)) (x y : List ℕ) → AppendsSome a b x → AppendsSome a b (x ++ y)
some_in_front a b x y (prefix, (rest, whole), appends) =
    (prefix, (rest ++ y, ap (λ t. t ++ y) whole ∙ append_assoc prefix rest y), appends)

-- ---- the commands with which a dump begins

begins : (place : ℕ) (commands : List Dumped) (front : Front) (rest text : List ℕ) → SayAll front.parts commands → front.head.place ≡ place
    → text ≡ front_text front ++ rest → BeginsWith place commands text
begins place [] front rest text says placed is = tt
begins place (dumped ∷ more) front rest text says placed is = (front, rest, says, placed, is)

pub begins_read : (input now : Option (List ℕ)) (reading : Reading) (front : Front) (commands : List Dumped) (place : ℕ) → front.head.place ≡ place
    → IsReadTo input now reading front commands → IfSome input (BeginsWith place commands)
begins_read None now reading front commands place placed read = tt
begins_read (Some text) now reading front commands place placed read = by (prepend_known reading.ahead now) read.takes
  where
    by : (left : Option (List ℕ)) → Consumes (Some text) left (front_text front) → BeginsWith place commands text
    by None takes = absurd takes
    by (Some rest) takes = begins place commands front rest text read.says placed takes

pub begins_as : (input : Option (List ℕ)) (front : Front) (rest : List ℕ) (commands : List Dumped) (place : ℕ) → SayAll front.parts commands
    → front.head.place ≡ place → IfSome input (λ text. text ≡ front_text front ++ rest) → IfSome input (BeginsWith place commands)
begins_as None front rest commands place says placed is = tt
begins_as (Some text) front rest commands place says placed is = begins place commands front rest text says placed is

-- ---- what was said

pub says_nothing : (without : List Without) (input known : Option (List ℕ)) (s : State) → SaysSome without input known known s
says_nothing without input known s =
    record { place = 0; commands = []; begin = by input; verdicts = []; judged = λ clean. ([], refl); some = none_some known _ }
  where
    by : (input : Option (List ℕ)) → IfSome input (BeginsWith 0 [])
    by None = tt
    by (Some text) = tt

pub says_some : (without : List Without) (input start now : Option (List ℕ)) (s : State) (place : ℕ) (commands : List Dumped) (verdicts : List Verdict)
    → IfSome input (BeginsWith place commands) → (HasCleanDisk s → (book : List Entry) × Restores place [] (kept_of without commands) verdicts book)
    → AppendsSome start now (verdict_lines (kept_of without commands) verdicts) → SaysSome without input start now s
says_some without input start now s place commands verdicts begin judged some = record {
  place = place;
  commands = commands;
  begin = begin;
  verdicts = verdicts;
  judged = judged;
  some = some_in_front start now _ (unmet_lines (unmet_of without commands)) some;
}

-- the same where more was asked of the disk
pub says_later : (without : List Without) (input start now : Option (List ℕ)) (s t : State) → (HasCleanDisk t → HasCleanDisk s)
    → SaysSome without input start now s → SaysSome without input start now t
says_later without input start now s t early says = record {
  place = says.place;
  commands = says.commands;
  begin = says.begin;
  verdicts = says.verdicts;
  judged = λ clean. says.judged (early clean);
  some = says.some;
}

-- nothing more than of the commands so far
pub says_so_far : (old mid : Point) → GoneOn old mid → mid.made.without ≡ old.made.without → (s : State) → (HasCleanDisk s → HasCleanDisk mid.state)
    → SaysSomeBehind old mid.written s
says_so_far old mid gone same s early place input start front done placed read so =
    let at = gone place input start front done read so in
    subst (λ (w : _). SaysSome w input start mid.written s) (ap (λ w. w.now) same)
    (says_some mid.made.without.now input start mid.written s place at.1 at.4.verdicts
    (begins_read input mid.known mid.reading at.0 at.1 place (ap (λ (h : Head). h.place) at.2 ∙ placed) at.3)
    (λ clean. let restored = at.4.restored (early clean) in (restored.book, restored.restores))
    (all_some start mid.written _ at.4.written))

-- a part of the line of the next command, too
pub says_next : (old mid : Point) → GoneOn old mid → mid.made.without ≡ old.made.without → (known : Option (List ℕ)) (reading : Reading) (dumped : Dumped)
    → ((start : Option (List ℕ)) (front : Front) (before : List Dumped) → IsReadTo start mid.known mid.reading front before
    → GoesOn start front before known reading (Ok (NextCommand dumped)))
    → (written : Option (List ℕ)) (s : State) → (HasCleanDisk s → HasCleanDisk mid.state)
    → SaysSomeOf mid.made dumped mid.written written mid.state s → SaysSomeBehind old written s
says_next old mid gone same known reading dumped reads written s early (inl nothing) place input start front done placed read so =
    subst (λ (w : Option (List ℕ)). SaysSome old.made.without.now input start w s) (sym nothing)
    (says_so_far old mid gone same s early place input start front done placed read so)
says_next old mid gone same known reading dumped reads written s early (inr (kept, verdict, comes, some)) place input start front done placed read so =
    let at = gone place input start front done read so in
    let next = reads input at.0 at.1 at.3 in
    let without = mid.made.without.now in
    let rise = says_rise 0 (with_part at.0 next.0).parts (at.1 ++ dumped ∷ []) next.1.parts next.1.says in
    let lines : verdict_lines (kept_of without (at.1 ++ dumped ∷ [])) (at.4.verdicts ++ verdict ∷ [])
    ≡ verdict_lines (kept_of without at.1) at.4.verdicts ++ verdict_line dumped verdict =
    ap (λ k. verdict_lines k (at.4.verdicts ++ verdict ∷ [])) (kept_more without at.1 dumped kept)
    ∙ lines_more (kept_of without at.1) at.4.verdicts dumped verdict at.4.as_many in
    subst (λ (w : _). SaysSome w input start written s) (ap (λ w. w.now) same)
    (says_some without input start written s place (at.1 ++ dumped ∷ []) (at.4.verdicts ++ verdict ∷ [])
    (begins_read input known reading (with_part at.0 next.0) (at.1 ++ dumped ∷ []) place (ap (λ (h : Head). h.place) at.2 ∙ placed) next.1)
    (λ clean. comes clean place start mid.written at.1 rise at.4)
    (subst (AppendsSome start written) (sym lines)
    (some_behind start mid.written written _ _ at.4.written some)))

pub says_anyway : {A E : Type 0} (result : Result A E) (P : Type 0) → P → OnErr result P
says_anyway (Ok done) P p = tt
says_anyway (Err fault) P p = p

-- ---- the commit

pub outcome_reads : (how : Restored) (result : Result (Unit {0}) Error) (calls : ReadsMade) → NoneFailed calls → ReadsIn (restored_outcome how result) calls
outcome_reads how (Ok done) calls none = none
outcome_reads how (Err (SqliteFailure code.OutOfMemory)) calls none = none
outcome_reads how (Err other) calls none = none

-- What a run of commands on a book writes, and what it leaves.
use Rattle.std.specs.Io.KnownBytes.{Appends}
use Rattle.std.specs.Prelude.{◌≡◌, ◌≢◌, ◌⊎◌, ℕ, ◌+◌, ◌<◌, suc, IsTrue, List, [], ◌∷◌, ◌++◌, length, codes, decimal, Option, Result, Ok, Err}
use Rattle.sqlite.specs.State.{HasCleanDisk, State, Survives}
use Rattle.sqlite.specs.Tree.{Trees}
use Rattle.lot_command.specs.declared.command.Command.{Command}
use Rattle.lot_command.specs.declared.key.Key.{Key}
use Rattle.lot_book.specs.Facts.{Entry}
use Rattle.lot_book.specs.Judged.{JudgesOn}
use Rattle.lot_book.specs.declared.verdict.Verdict.{Verdict}
use Rattle.lot_book.specs.declared.verdict.Verdict.TheVariants.{Accepted, Repeated, Refused}
use Rattle.lot_load.specs.Kept.{IsOf}
use Rattle.lot_load.specs.Paired.{FindsPaired, KeepsPaired}
use Rattle.lot_load.specs.declared.kept.Kept.{Kept as Known}
use Rattle.lot_rows.specs.Tables.{Has, Tables}
use Rattle.lot_stored.specs.StandFor.{Stands}
use Rattle.std.specs.declared.io.Error.{Error}
use Rattle.lot_report.specs.declared.line.PrintFault.{PrintFault}
use Rattle.lot_io.specs.Writes.{AllFlushed, HasFailed, WritesMade}
use Rattle.lot_report.specs.Printed.{line, replies, reply}
use Rattle.lot_report.specs.Written.{IsPrefixOf}
use Rattle.lot_table.specs.Statement.{DiskFailed}
use Rattle.lot_store.specs.Apply.{AppliesWith, FailsFor, HasNoRoomFor, condition_after}
use Rattle.lot_store.specs.ByText.{IsByText, RunsByText}
use Rattle.lot_store.specs.Session.{LeavesFirst, LeavesJudged, LeavesNext, LeavesStopped, Session}
use Rattle.lot_store.specs.declared.book.Condition.{Condition}
use Rattle.lot_store.specs.declared.book.Condition.TheVariants.{Ready}
use Rattle.lot_store.specs.declared.fault.StoreFault.{StoreFault}
use Rattle.lot_store.specs.declared.fault.StoreFault.TheVariants.{Damaged, Device, InDoubt, Memory, NeedsReopen}
use Rattle.lot_store.specs.declared.run.Ending.{Ending}
use Rattle.lot_store.specs.declared.run.Ending.TheVariants.{Complete, Output, Stopped}
use Rattle.lot_store.specs.declared.run.RunEnd.{RunEnd}

-- ---- lines (docs/FORMATS.md, Replies)

-- the code and the name of a fault
abbrev pub fault_name : StoreFault → List ℕ
fault_name Device = codes "S4 Device"
fault_name InDoubt = codes "S5 InDoubt"
fault_name NeedsReopen = codes "S6 NeedsReopen"
fault_name Damaged = codes "S7 Damaged"
fault_name Memory = codes "Memory"

-- the line of the fault at which a run stops, at the command of that number
abbrev pub fault_line : ℕ → StoreFault → List ℕ
fault_line number fault = line (decimal number ++ (codes " fault " ++ fault_name fault))

-- the line that tells an answer: the reply, or the line of the fault
abbrev pub answer_line : ℕ → Result Verdict StoreFault → List ℕ
answer_line number (Ok verdict) = reply number verdict
answer_line number (Err fault) = fault_line number fault

-- a prefix of the line is written, or all of it without the flush
abbrev pub AppendsSome : Option (List ℕ) → Option (List ℕ) → List ℕ → Type 0
AppendsSome old new text = (prefix : List ℕ) × IsPrefixOf prefix text × Appends old new prefix

-- ---- one command

-- how many of the verdicts refuse
abbrev pub count_refused : List Verdict → ℕ
count_refused [] = 0
count_refused (Accepted ∷ verdicts) = count_refused verdicts
count_refused (Repeated ∷ verdicts) = count_refused verdicts
count_refused (Refused refusal ∷ verdicts) = suc (count_refused verdicts)

-- a line is written and flushed, or the writer failed
abbrev pub WritesOut : Option (List ℕ) → Option (List ℕ) → List ℕ → Result (Unit {0}) Ending → Type 0
WritesOut old new text (Ok done) = Appends old new text
WritesOut old new text (Err ending) = (ending ≡ Output) × AppendsSome old new text

-- a run stops at a fault, whose line is written, or not
abbrev pub StopsWith : ℕ → StoreFault → Option (List ℕ) → Option (List ℕ) → Ending → Type 0
StopsWith number fault old new ending =
    ((ending ≡ Stopped fault) × Appends old new (fault_line number fault)) ⊎ ((ending ≡ Output) × AppendsSome old new (fault_line number fault))

-- how a run ends at a command with that answer: it stops at the fault, whose line is written, or the writer failed
abbrev pub EndsAt : ℕ → Result Verdict StoreFault → Option (List ℕ) → Option (List ℕ) → Ending → Type 0
EndsAt number answer old new ending =
    ((fault : StoreFault) × (answer ≡ Err fault) × (ending ≡ Stopped fault) × Appends old new (fault_line number fault))
    ⊎ ((ending ≡ Output) × AppendsSome old new (answer_line number answer))

-- A command of that number is applied, and its reply is written, or the run ends at it, and that is the condition of the book
-- then. On any tables a verdict is by the text under its key, and the lots that were looked at for it are paired. The first that
-- is kept is kept before it, the other one then.
abbrev pub RepliesTo : Option Known → Option Known → Key → Command → ℕ → State → State → Option (List ℕ) → Option (List ℕ) → Condition → Result Verdict Ending → Type 0
RepliesTo kept kept_then key command number old new before written condition (Ok verdict) =
    AppliesWith (IsOf kept) (IsOf kept_then) key command old new (Ok verdict) × Appends before written (reply number verdict)
    × IsByText key command old new (Ok verdict)
    × FindsPaired {R = Verdict} {E = StoreFault} kept command old new (Ok verdict) × KeepsPaired kept kept_then old new
RepliesTo kept kept_then key command number old new before written condition (Err ending) =
    (answer : Result Verdict StoreFault) × AppliesWith (IsOf kept) (IsOf kept_then) key command old new answer
    × FailsFor kept key command old new answer × IsByText key command old new answer
    × (answer ≢ Err NeedsReopen)
    × (condition ≡ condition_after answer) × EndsAt number answer before written ending

-- ---- flushing

-- a printed line is flushed, or the writer failed; nothing more is written
abbrev pub FlushesLine : Result (Unit {0}) PrintFault → Option (List ℕ) → Option (List ℕ) → Result (Unit {0}) Ending → Type 0
FlushesLine (Ok done) old new (Ok flushed) = Appends old new []
FlushesLine (Ok done) old new (Err ending) = (ending ≡ Output) × Appends old new []
FlushesLine (Err cut) old new (Ok flushed) = ⊥
FlushesLine (Err cut) old new (Err ending) = (ending ≡ Output) × Appends old new []

-- where a run ends: all that it wrote is flushed, and no call of the writer failed; or one did
abbrev pub IsWrittenOut : Ending → WritesMade → Type 0
IsWrittenOut Complete calls = AllFlushed calls
IsWrittenOut (Stopped fault) calls = AllFlushed calls
IsWrittenOut Output calls = HasFailed calls.after

-- the same behind a line of it
abbrev pub IsWrittenOutAs : {A : Type 0} → Result A Ending → WritesMade → Type 0
IsWrittenOutAs (Ok done) calls = AllFlushed calls
IsWrittenOutAs (Err ending) calls = IsWrittenOut ending calls

abbrev pub flush_outcome : Result (Unit {0}) Error → Result (Unit {0}) Ending
flush_outcome (Ok done) = Ok tt
flush_outcome (Err error) = Err Output

-- ---- a run

-- What is written behind the replies to the verdicts, the first of which has the number `from`. It is nothing, or the line of
-- the fault. Where the writer failed, it is some of the line of the answer to the next command.
abbrev pub WritesEnd : ℕ → List Verdict → Result Verdict StoreFault → Ending → Option (List ℕ) → Option (List ℕ) → Type 0
WritesEnd from verdicts answer Complete old new = Appends old new (replies from verdicts)
WritesEnd from verdicts answer (Stopped fault) old new = Appends old new (replies from verdicts ++ fault_line (length verdicts + from) fault)
WritesEnd from verdicts answer Output old new =
    (prefix : List ℕ) × IsPrefixOf prefix (answer_line (length verdicts + from) answer) × Appends old new (replies from verdicts ++ prefix)

-- the counts are those of the lines
pub record Writes (from : ℕ) (verdicts : List Verdict) (answer : Result Verdict StoreFault) (end : RunEnd) (old new : Option (List ℕ)) : Type 0 where
  pub replied : end.replied ≡ length verdicts
  pub refused : end.refused ≡ count_refused verdicts
  pub lines : WritesEnd from verdicts answer end.ending old new

-- a run ends at the command behind those that were replied to; before any only where the book needs reopening
abbrev pub IsAtCommand : ℕ → ℕ → Result Verdict StoreFault → Type 0
IsAtCommand commands replied answer = (replied < commands) ⊎ ((answer ≡ Err NeedsReopen) × (replied ≡ 0))

-- where a run of so many commands ends: behind the last of them, or at the one that has the answer
abbrev pub EndsBehind : ℕ → ℕ → Result Verdict StoreFault → Ending → Type 0
EndsBehind commands replied answer Complete = replied ≡ commands
EndsBehind commands replied answer (Stopped fault) = IsAtCommand commands replied (Err fault)
EndsBehind commands replied answer Output = IsAtCommand commands replied answer

-- the database stands for that book, and has no room for the first of these commands on it
abbrev pub HasNoRoomForNext : List Entry → List (Key × Command) → State → Type 0
HasNoRoomForNext book [] new = ⊥
HasNoRoomForNext book (next ∷ left) new =
    (stands : Stands new book) × HasNoRoomFor next.0 next.1 book stands.tables new.now.trees new

-- What stands after a run whose next command came to a fault, and what a crash may leave. The device refuses a command only
-- where the disk failed or the database has no room for it, and a commit is in doubt only where the disk failed.
abbrev pub LeavesAtFault : StoreFault → List Verdict → List Entry → List (Key × Command) → State → State → Type 0
LeavesAtFault Device verdicts book left old new =
    (IsTrue new.is_open → Stands new book) × ((trees : Trees) → new.may_leave trees → LeavesJudged old.may_leave verdicts book trees)
    × (DiskFailed old new ⊎ HasNoRoomForNext book left new)
LeavesAtFault NeedsReopen verdicts book left old new =
    (verdicts ≡ []) × Stands new book × ((trees : Trees) → new.may_leave trees → LeavesJudged old.may_leave verdicts book trees)
LeavesAtFault Damaged verdicts book left old new = ⊥
LeavesAtFault InDoubt verdicts book left old new =
    (IsTrue new.is_open → Stands new book) × ((trees : Trees) → new.may_leave trees → LeavesNext old.may_leave verdicts book left trees)
    × DiskFailed old new
LeavesAtFault Memory verdicts book left old new =
    (IsTrue new.is_open → Stands new book) × ((trees : Trees) → new.may_leave trees → LeavesNext old.may_leave verdicts book left trees)

-- the same where the next command was judged, though its reply isn't written out: the book after it stands
abbrev pub LeavesAtVerdict : Verdict → List Verdict → List Entry → List (Key × Command) → State → State → Type 0
LeavesAtVerdict verdict verdicts book [] old new = ⊥
LeavesAtVerdict verdict verdicts book (next ∷ left) old new =
    (after : List Entry) × JudgesOn book next.0 next.1 verdict after × Stands new after
    × ((trees : Trees) → new.may_leave trees → LeavesJudged old.may_leave (verdicts ++ verdict ∷ []) after trees)

abbrev pub LeavesAtAnswer : Result Verdict StoreFault → List Verdict → List Entry → List (Key × Command) → State → State → Type 0
LeavesAtAnswer (Ok verdict) verdicts book left old new = LeavesAtVerdict verdict verdicts book left old new
LeavesAtAnswer (Err fault) verdicts book left old new = LeavesAtFault fault verdicts book left old new

-- What stands after a run that ended with these commands left, and what a crash may leave. The answer to the first of them
-- matters where the writer failed.
abbrev pub LeavesAfter : List Verdict → List Entry → List (Key × Command) → State → State → Result Verdict StoreFault → Ending → Type 0
LeavesAfter verdicts book left old new answer Complete =
    (left ≡ []) × Stands new book × ((trees : Trees) → new.may_leave trees → LeavesJudged old.may_leave verdicts book trees)
LeavesAfter verdicts book left old new answer (Stopped fault) = LeavesAtFault fault verdicts book left old new
LeavesAfter verdicts book left old new answer Output = LeavesAtAnswer answer verdicts book left old new

-- a run of commands on a book in a file; the answer is that to the command at which the writer failed
pub record RunsSession (commands : List (Key × Command)) (from : ℕ) (old new : State) (before written : Option (List ℕ)) (answer : Result Verdict StoreFault) (end : RunEnd) : Type 0 where
  pub verdicts : List Verdict
  pub writes : Writes from verdicts answer end before written
  pub place : EndsBehind (length commands) (length verdicts) answer end.ending
  pub session : HasCleanDisk new → (entries : List Entry) → Stands old entries
      → (book : List Entry) × (left : List (Key × Command)) × Session entries commands verdicts book left
      × LeavesAfter verdicts book left old new answer end.ending
  -- of a connection that was open a stop leaves the book after the commands that were replied to, or after one more, which was
  -- accepted
  pub stop : HasCleanDisk new → IsTrue old.is_open → (entries : List Entry) → Stands old entries
      → (trees : Trees) → new.may_leave trees → LeavesStopped entries commands verdicts trees
  pub crash : Survives old new (λ trees. (entries : List Entry) → Stands old entries → LeavesFirst entries commands trees)
  -- whatever the tables stand for, each verdict is by the text under its key, and the writes of each accepted command are made
  pub texts : HasCleanDisk new → (tables : Tables) → Has old tables
      → RunsByText tables commands verdicts old new answer end.ending

-- ---- the condition of the book

-- a run of a book that needs reopening stops under the number of its first command, whatever the commands are
pub record StopsAtOnce (from : ℕ) (end : RunEnd) (old new : Option (List ℕ)) : Type 0 where
  pub replied : end.replied ≡ 0
  pub refused : end.refused ≡ 0
  pub line : StopsWith from NeedsReopen old new end.ending

-- the condition of a book after a run that ended so; where the writer failed, it is that after the answer
abbrev pub IsConditionAfter : Result Verdict StoreFault → Ending → Condition → Type 0
IsConditionAfter answer Complete condition = condition ≡ Ready
IsConditionAfter answer (Stopped fault) condition = condition ≡ condition_after (Err fault)
IsConditionAfter answer Output condition = condition ≡ condition_after answer

-- A run of commands on a book in the first condition, which has the second one then. A book that was ready never answers that
-- it needs reopening.
abbrev pub RunsBook : List (Key × Command) → ℕ → State → State → Option (List ℕ) → Option (List ℕ) → Condition → Condition → RunEnd → Type 0
RunsBook commands from old new before written was condition end =
    (answer : Result Verdict StoreFault) × RunsSession commands from old new before written answer end
    × (was ≡ Ready → answer ≢ Err NeedsReopen) × IsConditionAfter answer end.ending condition

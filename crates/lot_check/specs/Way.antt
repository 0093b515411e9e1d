-- The parts of the way from an input to its answer, each as the contract of a call that `check` makes.
use Rattle.std.specs.Io.KnownBytes.{Appends}
use Rattle.std.specs.Prelude.{◌≡◌, ◌⊎◌, Option, Result, Ok, Err, ℕ, ◌+◌, ◌<◌, ◌≤◌, List, [], ◌∷◌, ◌++◌, length}
use Rattle.lot_stream.specs.declared.fault.Fault.{Fault}
use Rattle.lot_stream.specs.declared.status.Status.{Status}
use Rattle.lot_report.specs.declared.fault.ReportFault.{ReportFault}
use Rattle.lot_report.specs.declared.line.PrintFault.{PrintFault}
use Rattle.lot_command.specs.declared.command.Command.{Command}
use Rattle.lot_book.specs.declared.change.Change.{Change}
use Rattle.lot_book.specs.declared.holding.Holding.{Holding}
use Rattle.lot_book.specs.declared.verdict.Verdict.{Verdict}
use Rattle.lot_view.specs.declared.view.View.{View}
use Rattle.lot_read.specs.Text.{IsFaultAt}
use Rattle.lot_book.specs.Facts.{Entry}
use Rattle.lot_book.specs.Judged.{JudgesAll, numbered}
use Rattle.lot_book.specs.Openings.{DecidesByOpening, FactsWithOpenings, HaveSameOpenings, IsAcceptedWith, facts_with_openings, with_listed}
use Rattle.lot_book.specs.Step.{Refuse, Repeat}
use Rattle.lot_view.specs.View.{known, known_with_openings}
use Rattle.lot_io.specs.Writes.{NoneFailed, WritesMade}
use Rattle.lot_report.specs.Printed.{reply, replies}
use Rattle.lot_report.specs.Holdings.{IsReportToFault, unvalued}
use Rattle.lot_report.specs.Written.{AppendsPrefix}
use Rattle.lot_stream.specs.FaultLine.{fault_line}
use Rattle.lot_check.specs.Key.{key_of}
use Rattle.lot_io.specs.Reads.{ReadsMade}
use Rattle.lot_stream.specs.Input.{EndsFor, EndsWell, longest_input}
use Rattle.lot_stream.specs.declared.input.SlurpFault.TheVariants as slurp
use Rattle.lot_stream.specs.Status.{code_of, status_of}
use Rattle.lot_check.specs.Answer.{status_of_replies, status_of_verdict, IsPart, IsWhole, IsJudged, JudgingMayLackMemory, RunsOut, RunsOutInReport}
use Rattle.lot_book.specs.Recorded.{facts_in, recorded}

-- ---- Runs: commands judged on a fresh book, with a reply to each.

-- What is known once an accepted command is recorded: the facts with what it changes, and for each lot that is then held the
-- opening number that the change lists, or else its own.
pub record IsRecorded (before : FactsWithOpenings) (command : Command) (change : Change)
    (after : FactsWithOpenings) : Type 0 where
  pub facts : after.facts ≡ recorded before.facts command change
  pub openings : (account commodity : List ℕ) → HaveSameOpenings commodity (after.facts.held account)
      (with_listed change.openings before.opening account commodity) (after.opening account commodity)

-- a command judged on what is known of a book: the verdict, and what is known after it
abbrev pub JudgesKnown : FactsWithOpenings → Command → Verdict → FactsWithOpenings → Type 0
JudgesKnown before command Verdict.Accepted after =
    (change : Change) × IsAcceptedWith before command change × IsRecorded before command change after
JudgesKnown before command Verdict.Repeated after = DecidesByOpening before command Repeat × (after ≡ before)
JudgesKnown before command (Verdict.Refused refusal) after =
    DecidesByOpening before command (Refuse refusal) × (after ≡ before)

-- A command of that number is judged on what is known, and its reply is written. Where the writer fails, a prefix of the reply
-- is. Where memory ends at that number, nothing is written; judging the command may then lack memory.
abbrev pub Replies : FactsWithOpenings → Command → ℕ → Option (List ℕ) → Option (List ℕ)
    → Result (View × Status) Fault → Type 0
Replies before command number old new (Ok replied) =
    (verdict : Verdict) × JudgesKnown before command verdict (known_with_openings replied.0)
    × Appends old new (reply number verdict) × (replied.1 ≡ status_of_verdict verdict)
Replies before command number old new (Err Fault.Write) =
    (verdict : Verdict) × (after : FactsWithOpenings) × JudgesKnown before command verdict after
    × AppendsPrefix old new (reply number verdict)
Replies before command number old new (Err (Fault.MemoryAt stopped)) =
    (stopped ≡ number) × JudgingMayLackMemory before command × Appends old new []
Replies before command number old new (Err Fault.Memory) = ⊥
Replies before command number old new (Err Fault.Range) = ⊥
Replies before command number old new (Err (Fault.Text line fault)) = ⊥
Replies before command number old new (Err Fault.TooLong) = ⊥
Replies before command number old new (Err Fault.Read) = ⊥

-- the writer fails within the replies to the first commands
abbrev pub IsCutInRun : List Command → Option (List ℕ) → Option (List ℕ) → Type 0
IsCutInRun commands old new =
    (done : List Command) × (rest : List Command) × (verdicts : List Verdict) × (book : List Entry)
    × (commands ≡ done ++ rest) × JudgesAll [] (numbered key_of 1 done) verdicts book × AppendsPrefix old new (replies 1 verdicts)

-- out of memory at the command of that number, where judging it may lack memory: the replies to those before it are written
abbrev pub RunsOutInRun : List Command → ℕ → Option (List ℕ) → Option (List ℕ) → Type 0
RunsOutInRun commands number old new =
    (done : List Command) × (command : Command) × (rest : List Command) × (verdicts : List Verdict) × (book : List Entry)
    × (commands ≡ done ++ command ∷ rest) × JudgesAll [] (numbered key_of 1 done) verdicts book × (number ≡ length verdicts + 1)
    × JudgingMayLackMemory (facts_with_openings book (key_of number)) command × Appends old new (replies 1 verdicts)

-- what a run of commands on a fresh book writes and returns: the replies to all, and what is known of the book after
-- them; or it stops at one of them
abbrev pub RunsCommands : List Command → Option (List ℕ) → Option (List ℕ) → Result (View × Status) Fault → Type 0
RunsCommands commands old new (Ok ran) =
    (verdicts : List Verdict) × (book : List Entry) × JudgesAll [] (numbered key_of 1 commands) verdicts book
    × (known ran.0 ≡ facts_in book) × Appends old new (replies 1 verdicts)
    × (ran.1 ≡ status_of_replies verdicts)
RunsCommands commands old new (Err Fault.Write) = IsCutInRun commands old new
RunsCommands commands old new (Err (Fault.MemoryAt number)) = RunsOutInRun commands number old new
RunsCommands commands old new (Err Fault.Memory) = ⊥
RunsCommands commands old new (Err Fault.Range) = ⊥
RunsCommands commands old new (Err (Fault.Text line fault)) = ⊥
RunsCommands commands old new (Err Fault.TooLong) = ⊥
RunsCommands commands old new (Err Fault.Read) = ⊥

-- ---- The way from the input to its end, and the line of a fault.

-- Whole lines of the answer are written, and the line of a fault of memory belongs behind them. No call of the writer failed;
-- where memory ended in the report, this isn't said.
abbrev pub StopsForMemory : List ℕ → WritesMade → Fault → Option (List ℕ) → Option (List ℕ) → Type 0
StopsForMemory input calls fault old new =
    (kept : List ℕ) × RunsOut input kept (fault_line fault)
    × (NoneFailed calls.before calls.after ⊎ RunsOutInReport input kept (fault_line fault))
    × Appends old new kept

-- what is written of an input that was read to its end, by these calls of the writer, before its fault is reported, if it comes
-- to one
abbrev pub Reaches : List ℕ → WritesMade → Option (List ℕ) → Option (List ℕ) → Result Status Fault → Type 0
Reaches input calls old new (Ok status) =
    (text : List ℕ) × IsWhole input text (code_of status) × NoneFailed calls.before calls.after
    × Appends old new text
Reaches input calls old new (Err Fault.Read) = ⊥
Reaches input calls old new (Err Fault.TooLong) = ⊥
Reaches input calls old new (Err (Fault.Text number fault)) =
    (length input ≤ longest_input) × IsFaultAt input number fault
    × NoneFailed calls.before calls.after × Appends old new []
Reaches input calls old new (Err Fault.Range) =
    (verdicts : List Verdict) × (rows : List Holding) × (report : List ℕ) × IsJudged input verdicts rows
    × IsReportToFault (unvalued rows) report × Appends old new (replies 1 verdicts ++ report)
Reaches input calls old new (Err Fault.Write) = (text : List ℕ) × IsPart input text × AppendsPrefix old new text
Reaches input calls old new (Err Fault.Memory) = StopsForMemory input calls Fault.Memory old new
Reaches input calls old new (Err (Fault.MemoryAt number)) = StopsForMemory input calls (Fault.MemoryAt number) old new

-- nothing is written where the reader isn't read to its end, and its calls have the cause of the fault
abbrev pub IsUnheard : ReadsMade → List ℕ → Option (List ℕ) → Option (List ℕ) → Result Status Fault → Type 0
IsUnheard all input old new (Ok status) = ⊥
IsUnheard all input old new (Err Fault.Read) = EndsFor all slurp.Read × Appends old new []
IsUnheard all input old new (Err Fault.TooLong) =
    EndsFor all slurp.TooLong × (longest_input < length input) × Appends old new []
IsUnheard all input old new (Err Fault.Memory) = EndsFor all slurp.Memory × Appends old new []
IsUnheard all input old new (Err (Fault.Text number fault)) = ⊥
IsUnheard all input old new (Err Fault.Range) = ⊥
IsUnheard all input old new (Err Fault.Write) = ⊥
IsUnheard all input old new (Err (Fault.MemoryAt number)) = ⊥

-- the same of what a reader has, which is read to its end, or isn't
abbrev pub Answers : ReadsMade → List ℕ → WritesMade → Option (List ℕ) → Option (List ℕ) → Result Status Fault → Type 0
Answers all input calls old new result =
    (IsUnheard all input old new result × NoneFailed calls.before calls.after)
    ⊎ (EndsWell all (length input) × Reaches input calls old new result)

-- the line of a fault is written, with its status; or the writer fails within it
abbrev pub ReportsFault : Fault → Option (List ℕ) → Option (List ℕ) → Result Status PrintFault → Type 0
ReportsFault fault old new (Ok status) = Appends old new (fault_line fault) × (status ≡ status_of fault)
ReportsFault fault old new (Err cut) = AppendsPrefix old new (fault_line fault)

-- what is written behind that, and the status of a run that all is written of: after a fault of the writer nothing is
abbrev pub Concludes : Option (List ℕ) → Option (List ℕ) → Result Status Fault → Result Status PrintFault → Type 0
Concludes old new (Ok status) (Ok end) = Appends old new [] × (end ≡ status)
Concludes old new (Ok status) (Err cut) = ⊥
Concludes old new (Err Fault.Write) (Ok end) = ⊥
Concludes old new (Err Fault.Write) (Err cut) = Appends old new []
Concludes old new (Err Fault.Read) concluded = ReportsFault Fault.Read old new concluded
Concludes old new (Err Fault.TooLong) concluded = ReportsFault Fault.TooLong old new concluded
Concludes old new (Err (Fault.Text number fault)) concluded = ReportsFault (Fault.Text number fault) old new concluded
Concludes old new (Err Fault.Range) concluded = ReportsFault Fault.Range old new concluded
Concludes old new (Err Fault.Memory) concluded = ReportsFault Fault.Memory old new concluded
Concludes old new (Err (Fault.MemoryAt number)) concluded = ReportsFault (Fault.MemoryAt number) old new concluded

-- What `check` writes for an input, and with which status it ends.
use Rattle.std.specs.Prelude.{◌≡◌, ◌⊎◌, ℕ, ◌+◌, ◌<◌, ◌≤◌, List, [], ◌∷◌, ◌++◌, length}
use Rattle.lot_stream.specs.declared.fault.Fault.{Fault}
use Rattle.lot_stream.specs.declared.status.Status.{Status}
use Rattle.lot_command.specs.declared.command.Command.{Command}
use Rattle.lot_book.specs.declared.holding.Holding.{Holding}
use Rattle.lot_book.specs.declared.verdict.Verdict.{Verdict}
use Rattle.lot_read.specs.Text.{Reads, IsFaultAt, RunsOutAt}
use Rattle.lot_read.specs.declared.fault.LineFault.{LineFault}
use Rattle.lot_book.specs.declared.change.Change.{Change}
use Rattle.lot_book.specs.Facts.{Entry}
use Rattle.lot_book.specs.Holding.{ListsHoldings}
use Rattle.lot_book.specs.Judged.{JudgesAll, numbered}
use Rattle.lot_book.specs.Openings.{DecidesByOpening, FactsWithOpenings, facts_with_openings, ties_on}
use Rattle.lot_book.specs.Step.{Accept}
use Rattle.lot_ledger.specs.Decide.{MayLackMemory}
use Rattle.lot_report.specs.Printed.{replies}
use Rattle.lot_stream.specs.FaultLine.{fault_line}
use Rattle.lot_check.specs.Key.{key_of}
use Rattle.lot_report.specs.Holdings.{IsReport, IsReportToFault, AreFirstLines, AreKeptLines, unvalued}
use Rattle.lot_io.specs.Writes.{AllFlushed, HasFailed, IsFlushed, WritesMade}
use Rattle.lot_report.specs.Written.{IsProperPrefixOf}
use Rattle.lot_io.specs.Reads.{ReadsMade}
use Rattle.lot_stream.specs.Input.{EndsFor, EndsWell, longest_input}
use Rattle.lot_stream.specs.declared.input.SlurpFault.TheVariants as slurp
use Rattle.lot_stream.specs.Status.{code_of, status_after}
use Rattle.lot_book.specs.Recorded.{facts_in}

-- ---- The status of replies.

-- the status of a run of one command
abbrev pub status_of_verdict : Verdict → Status
status_of_verdict Verdict.Accepted = Status.Accepted
status_of_verdict Verdict.Repeated = Status.Accepted
status_of_verdict (Verdict.Refused refusal) = Status.Refused

-- one refusal is enough for a run to count as refused
abbrev pub status_of_replies : List Verdict → Status
status_of_replies [] = Status.Accepted
status_of_replies (verdict ∷ verdicts) = status_after (status_of_verdict verdict) (status_of_replies verdicts)

-- ---- The whole answer.

-- the commands of the input, judged in order on an empty book, each under the key of its number, come to these verdicts, and the book holds these rows
pub record IsJudged (input : List ℕ) (verdicts : List Verdict) (rows : List Holding) : Type 0 where
  pub short : length input ≤ longest_input
  pub commands : List Command
  pub book : List Entry
  pub reads : Reads input commands
  pub judged : JudgesAll [] (numbered key_of 1 commands) verdicts book
  pub inventory : ListsHoldings (facts_in book) rows

-- the one line that the input is too long
abbrev pub IsTooLong : List ℕ → List ℕ → ℕ → Type 0
IsTooLong input text status = (longest_input < length input) × (text ≡ fault_line Fault.TooLong) × (status ≡ 3)

-- an input that no commands fit: one line reports the first faulty line and its fault
abbrev pub IsNoText : List ℕ → List ℕ → ℕ → Type 0
IsNoText input text status =
    (length input ≤ longest_input) × (number : ℕ) × (fault : LineFault) × IsFaultAt input number fault
    × (text ≡ fault_line (Fault.Text number fault)) × (status ≡ 3)

-- the replies and the holdings
abbrev pub IsWhole : List ℕ → List ℕ → ℕ → Type 0
IsWhole input text status =
    (verdicts : List Verdict) × (rows : List Holding) × (report : List ℕ) × IsJudged input verdicts rows
    × IsReport (unvalued rows) report × (text ≡ replies 1 verdicts ++ report) × (status ≡ code_of (status_of_replies verdicts))

-- the replies, the rows before the one with which a total leaves the range, and the line that reports it
abbrev pub IsBroken : List ℕ → List ℕ → ℕ → Type 0
IsBroken input text status =
    (verdicts : List Verdict) × (rows : List Holding) × (report : List ℕ) × IsJudged input verdicts rows
    × IsReportToFault (unvalued rows) report × (text ≡ replies 1 verdicts ++ (report ++ fault_line Fault.Range)) × (status ≡ 4)

-- the answer to an input that isn't too long, with its status
abbrev pub IsTextAnswer : List ℕ → List ℕ → ℕ → Type 0
IsTextAnswer input text status = IsNoText input text status ⊎ IsWhole input text status ⊎ IsBroken input text status

-- the text is the answer to the input, and the status goes with it
abbrev pub IsAnswer : List ℕ → List ℕ → ℕ → Type 0
IsAnswer input text status = IsTooLong input text status ⊎ IsTextAnswer input text status

-- ---- Parts of the answer.

-- the replies to the first commands
abbrev pub AreReplies : List ℕ → List ℕ → Type 0
AreReplies input text =
    (done : List Command) × (rest : List Command) × (verdicts : List Verdict) × (book : List Entry)
    × (length input ≤ longest_input) × Reads input (done ++ rest) × JudgesAll [] (numbered key_of 1 done) verdicts book × (text ≡ replies 1 verdicts)

-- all replies, and the first lines of the report, each of them whole
abbrev pub AreLines : List ℕ → List ℕ → Type 0
AreLines input text =
    (verdicts : List Verdict) × (rows : List Holding) × (lines : List ℕ)
    × IsJudged input verdicts rows × AreFirstLines (unvalued rows) lines × (text ≡ replies 1 verdicts ++ lines)

-- ---- Out of memory behind the end of the input: whole lines of the answer, and then the line that reports it.

-- at a line of the text, where those up to it and with it say commands: nothing, and the line without a number
abbrev pub RunsOutInText : List ℕ → List ℕ → List ℕ → Type 0
RunsOutInText input kept last =
    (length input ≤ longest_input) × (number : ℕ) × RunsOutAt input number × (kept ≡ []) × (last ≡ fault_line Fault.Memory)

-- judging a command may lack memory: to decide it, or to record it where it is accepted
abbrev pub JudgingMayLackMemory : FactsWithOpenings → Command → Type 0
JudgingMayLackMemory before command =
    MayLackMemory (ties_on before) before.facts command
    ⊎ ((change : Change) × DecidesByOpening before command (Accept change.legs))

-- the commands before the one of that number come to these verdicts, each on the book after those before it, and judging that one
-- may lack memory
pub record IsJudgedBefore (input : List ℕ) (number : ℕ) (verdicts : List Verdict) : Type 0 where
  pub short : length input ≤ longest_input
  pub done : List Command
  pub command : Command
  pub rest : List Command
  pub book : List Entry
  pub reads : Reads input (done ++ command ∷ rest)
  pub judged : JudgesAll [] (numbered key_of 1 done) verdicts book
  pub numbered : number ≡ length verdicts + 1
  pub may_lack : JudgingMayLackMemory (facts_with_openings book (key_of number)) command

-- at a command: the replies to those before it, and the line with its number
abbrev pub RunsOutAtCommand : List ℕ → List ℕ → List ℕ → Type 0
RunsOutAtCommand input kept last =
    (number : ℕ) × (verdicts : List Verdict) × IsJudgedBefore input number verdicts
    × (kept ≡ replies 1 verdicts) × (last ≡ fault_line (Fault.MemoryAt number))

-- before the report: all replies, and the line without a number
abbrev pub RunsOutBeforeReport : List ℕ → List ℕ → List ℕ → Type 0
RunsOutBeforeReport input kept last =
    (commands : List Command) × (verdicts : List Verdict) × (book : List Entry)
    × (length input ≤ longest_input) × Reads input commands × JudgesAll [] (numbered key_of 1 commands) verdicts book
    × (kept ≡ replies 1 verdicts) × (last ≡ fault_line Fault.Memory)

-- in the report: all replies and the lines of the report before, and the line without a number
abbrev pub RunsOutInReport : List ℕ → List ℕ → List ℕ → Type 0
RunsOutInReport input kept last =
    (verdicts : List Verdict) × (rows : List Holding) × (lines : List ℕ) × IsJudged input verdicts rows
    × AreKeptLines (unvalued rows) lines × (kept ≡ replies 1 verdicts ++ lines) × (last ≡ fault_line Fault.Memory)

abbrev pub RunsOut : List ℕ → List ℕ → List ℕ → Type 0
RunsOut input kept last =
    RunsOutInText input kept last ⊎ RunsOutAtCommand input kept last ⊎ RunsOutBeforeReport input kept last
    ⊎ RunsOutInReport input kept last

-- ---- What is written where the writer takes all of it.

-- Why the reader wasn't read to its end, and the one line that says so: it can't be read, it is too long, or memory ended
-- before its end. What its calls came to decides this.
abbrev pub IsUnread : ReadsMade → List ℕ → List ℕ → ℕ → Type 0
IsUnread all input text status =
    (EndsFor all slurp.Read × (text ≡ fault_line Fault.Read) × (status ≡ 3))
    ⊎ (EndsFor all slurp.TooLong × IsTooLong input text status)
    ⊎ (EndsFor all slurp.Memory × (text ≡ fault_line Fault.Memory) × (status ≡ 4))

-- memory ended before the answer was whole
abbrev pub IsOutOfMemory : List ℕ → List ℕ → ℕ → Type 0
IsOutOfMemory input text status = (kept : List ℕ) × (last : List ℕ) × RunsOut input kept last × (text ≡ kept ++ last) × (status ≡ 4)

-- What is written, with the status. Where the reader was read to its end, no call of it failed, and it gave as many bytes as
-- the input has, it is the answer, or what is written where memory ended. Else it is the line that says why it wasn't read.
abbrev pub IsOutput : ReadsMade → List ℕ → List ℕ → ℕ → Type 0
IsOutput all input text status =
    IsUnread all input text status
    ⊎ (EndsWell all (length input) × (IsTextAnswer input text status ⊎ IsOutOfMemory input text status))

-- the report was stopped: a total left the range, or memory ended within it
abbrev pub IsStoppedReport : List ℕ → List ℕ → ℕ → Type 0
IsStoppedReport input text status =
    IsBroken input text status
    ⊎ ((kept : List ℕ) × (last : List ℕ) × RunsOutInReport input kept last
    × (text ≡ kept ++ last) × (status ≡ 4))

-- An output was written and flushed, and no call of the writer failed. Where the report was stopped, this alone is said: all
-- is flushed. Nothing is then said of the calls before the line that reports the stop.
abbrev pub IsWritten : ReadsMade → WritesMade → List ℕ → List ℕ → ℕ → Type 0
IsWritten all calls input written status =
    (IsOutput all input written status × AllFlushed calls)
    ⊎ (EndsWell all (length input) × IsStoppedReport input written status × IsFlushed calls.after)

-- ---- What is written where the writer fails.

-- what is being written of an answer: the replies to the first commands, all replies and the first lines of the report, or
-- all of it
abbrev pub IsPart : List ℕ → List ℕ → Type 0
IsPart input text = AreReplies input text ⊎ AreLines input text ⊎ ((status : ℕ) × IsTextAnswer input text status)

-- what was being written when the writer failed: an answer to what was read to its end, or an output
abbrev pub IsBegun : ReadsMade → List ℕ → List ℕ → Type 0
IsBegun all input text =
    (EndsWell all (length input) × IsPart input text) ⊎ ((status : ℕ) × IsOutput all input text status)

-- a prefix of that, but not all of it; nothing more
abbrev pub IsCut : ReadsMade → List ℕ → List ℕ → ℕ → Type 0
IsCut all input written status = (text : List ℕ) × IsBegun all input text × IsProperPrefixOf written text × (status ≡ 4)

-- all was written, and the writer failed to flush it
abbrev pub IsUnflushed : ReadsMade → List ℕ → List ℕ → ℕ → Type 0
IsUnflushed all input written status = ((before : ℕ) × IsOutput all input written before) × (status ≡ 4)

-- ---- The theorem.

-- What is written for an input that was read by these calls, and the status. It is the answer with its status, or the one line
-- that the reader can't be read, with status 3. Or, with status 4, memory ended: whole lines of the answer are written, and
-- the line that says at which command. That line names no command before the end of the input. Behind the end it is never
-- written where the answer was settled before memory ended. All of it is flushed, and no call of the writer failed, except
-- where the report was stopped. Where a call of the writer failed, the status is 4: a prefix of that is written, but not all
-- of it, or all of it is written and not flushed.
abbrev pub IsOutcome : ReadsMade → WritesMade → List ℕ → List ℕ → ℕ → Type 0
IsOutcome all calls input written status =
    IsWritten all calls input written status
    ⊎ ((IsCut all input written status ⊎ IsUnflushed all input written status) × HasFailed calls.after)

-- A check with an account for crumbs: its commands are run on a book that is made for it, and what the book holds then is written
-- behind the replies (docs/RULES.md, The program).
use Rattle.std.specs.Prelude.{◌≡◌, ◌≢◌, ◌⊎◌, ℕ, nat_eq, if◌then◌else◌, List, [], length, None, Some, Option, Result, codes}
use Rattle.sqlite.specs.State.{HasCleanDisk, State}
use Rattle.lot_stream.specs.Status.{code_of}
use Rattle.lot_stream.specs.declared.status.Status.TheVariants.{Accepted}
use Rattle.lot_command.specs.declared.command.Command.{Command}
use Rattle.lot_command.specs.declared.key.Key.{Key}
use Rattle.lot_book.specs.Facts.{Entry}
use Rattle.lot_book.specs.declared.verdict.Verdict.{Verdict}
use Rattle.lot_rounding.specs.declared.asked.Asked.{Asked}
use Rattle.lot_rounding.specs.declared.rounding.Rounding.{Rounding}
use Rattle.lot_store.specs.declared.fault.StoreFault.{StoreFault}
use Rattle.lot_stored.specs.StandFor.{Stands}
use Rattle.lot_table.specs.Shape.{schema_of}
use Rattle.lot_io.specs.Writes.{IsFlushed, WriteCalls, WritesMade}
use Rattle.lot_input.specs.Input.{Gives, GivesNone, Reading}
use Rattle.lot_input.specs.Text.{IsFaultyText, TextMeans}
use Rattle.lot_input.specs.declared.fault.InputFault.{InputFault}
use Rattle.lot_book_report.specs.Fault.{HasCause}
use Rattle.lot_book_report.specs.Holdings.{ShowsHoldings}
use Rattle.lot_book_report.specs.declared.fault.ShowFault.{ShowFault}
use Rattle.lot_cli.specs.Init.{IsNotMade}
use Rattle.lot_cli.specs.Reports.{Concludes}
use Rattle.lot_cli.specs.Runs.{NeverReopens, status_of_run}
use Rattle.lot_cli.specs.Says.{Halts, Told}
use Rattle.lot_cli.specs.declared.halt.Halt.TheVariants as halt
use Rattle.lot_store.specs.Run.{EndsBehind, IsWrittenOut, Writes}
use Rattle.lot_store.specs.Session.{Session}
use Rattle.lot_store.specs.Turned.{AreTurned}
use Rattle.lot_store.specs.declared.fault.CreateFault.{CreateFault}
use Rattle.lot_store.specs.declared.fault.StoreFault.TheVariants.{Damaged}
use Rattle.lot_store.specs.declared.run.Ending.{Ending}
use Rattle.lot_store.specs.declared.run.Ending.TheVariants.{Complete, Output, Stopped}
use Rattle.lot_store.specs.declared.run.RunEnd.{RunEnd}

-- the batch under which the commands of a check are posted
abbrev pub check_batch : List ℕ
check_batch = codes "check"

-- ---- what follows the replies

-- what a book holds is written, as far as a fault lets it, and concluded with that status
pub record ShowsHeld (book : List Entry) (before written : Option (List ℕ)) (calls : WritesMade) (status : ℕ) : Type 0 where
  pub shown : Result (Unit {0}) ShowFault
  pub mid : Option (List ℕ)
  pub between : Option WriteCalls
  pub shows : ShowsHoldings book None before mid shown
  pub cause : HasCause shown (record { before = calls.before; after = between })
  pub concludes : Concludes Accepted shown mid written (record { before = between; after = calls.after }) status

-- the status behind a report: that of the commands, unless the report can't be written
abbrev pub status_behind : ℕ → ℕ → ℕ
status_behind posted shown = if nat_eq shown 0 then posted else shown

-- nothing more is written, and the status is that of the commands
abbrev pub ShowsNothing : Option (List ℕ) → Option (List ℕ) → WritesMade → ℕ → ℕ → Type 0
ShowsNothing before written calls posted status = (written ≡ before) × (calls.after ≡ calls.before) × (status ≡ posted)

-- What is written behind the replies of a run that ended so, with that status: what the book after it holds, if it came to its
-- end, and what the status is then.
abbrev pub ShowsBehind : Ending → List Entry → Option (List ℕ) → Option (List ℕ) → WritesMade → ℕ → ℕ → Type 0
ShowsBehind Complete book before written calls posted status =
    (shown : ℕ) × ShowsHeld book before written calls shown × (status ≡ status_behind posted shown)
ShowsBehind (Stopped fault) book before written calls posted status = ShowsNothing before written calls posted status
ShowsBehind Output book before written calls posted status = ShowsNothing before written calls posted status

-- ---- a check

-- Commands are run on a book without entries: each that was handed in, or another in its place. The replies are written, and
-- behind them what the book holds.
pub record RunsCheck (rounding : Rounding) (asked : List (Key × Asked)) (before written : Option (List ℕ)) (calls : WritesMade)
    (told : Told) : Type 0 where
  pub turned : List (Key × Command)
  pub answer : Result Verdict StoreFault
  pub end : RunEnd
  pub verdicts : List Verdict
  pub book : List Entry
  pub left : List (Key × Command)
  pub session : Session [] turned verdicts book left
  pub are_turned : AreTurned (Some rounding) [] asked turned end.replied answer
  pub mid : Option (List ℕ)
  pub between : Option WriteCalls
  pub writes : Writes 1 verdicts answer end before mid
  pub place : EndsBehind (length turned) (length verdicts) answer end.ending
  pub output : IsFlushed calls.before → IsWrittenOut end.ending (record { before = calls.before; after = between })
  pub behind : ShowsBehind end.ending book mid written (record { before = between; after = calls.after })
      (code_of (status_of_run end)) told.status
  pub never_reopens : NeverReopens answer end.ending
  pub undamaged : end.ending ≢ Stopped Damaged
  pub goes_on : told.halt ≡ None

-- What is read gives no commands, and the book that was made stays without entries; or those that it gives are run on it.
abbrev pub ChecksMade : Rounding → Reading → State → Option (List ℕ) → Option (List ℕ) → WritesMade → Told → Type 0
ChecksMade rounding reading new before written calls told =
    ((fault : InputFault) × GivesNone IsFaultyText reading fault × (HasCleanDisk new → Stands new [])
    × Halts (halt.Input fault) before written calls told)
    ⊎ ((given : List ℕ × List (Key × Asked)) × Gives (TextMeans check_batch 1) reading given
    × (HasCleanDisk new → RunsCheck rounding given.1 before written calls told))

-- so it is in a database without tables, or no book is made there
abbrev pub Checks : Rounding → Reading → State → State → Option (List ℕ) → Option (List ℕ) → WritesMade → Told → Type 0
Checks rounding reading old new before written calls told =
    ((fault : CreateFault) × IsNotMade old new fault × Halts (halt.Create fault) before written calls told)
    ⊎ ((old.now.schema ≡ schema_of []) × ChecksMade rounding reading new before written calls told)

-- What an action writes where it ends with a line.
use Rattle.std.specs.Prelude.{◌≡◌, ◌⊎◌, ℕ, List, Option, Result, Err, None, Ok, Some}
use Rattle.std.specs.Io.KnownBytes.{Appends}
use Rattle.lot_stream.specs.Status.{Ends, EndsIfFailed, code_of}
use Rattle.lot_stream.specs.declared.status.Status.{Status}
use Rattle.lot_stream.specs.declared.status.Status.TheVariants.{Accepted, Stopped}
use Rattle.lot_io.specs.Writes.{AllFlushed, HasFailed, WritesMade}
use Rattle.lot_report.specs.declared.line.PrintFault.{PrintFault}
use Rattle.lot_cli.specs.HaltLine.{halt_line, status_of_halt}
use Rattle.lot_cli.specs.declared.halt.Halt.{Halt}
use Rattle.lot_store.specs.Run.{AppendsSome}

-- An action writes a text, flushes it, and ends with its status, and no call of the writer failed. Or a call did, and some of
-- the text is written, or all of it without the flush.
abbrev pub Says : List ℕ → Status → Option (List ℕ) → Option (List ℕ) → WritesMade → ℕ → Type 0
Says text status before written calls end =
    ((end ≡ code_of status) × Appends before written text × AllFlushed calls)
    ⊎ ((end ≡ code_of Stopped) × AppendsSome before written text × HasFailed calls.after)

-- what is told of an action that ended: the status of the program, and why it ended before its
-- first command, if it did
pub record Told : Type 0 where
  pub status : ℕ
  pub halt : Option Halt

abbrev pub told : ℕ → Option Halt → Told
told status halt = record { status = status; halt = halt }

-- it ends with the line that says that all was done
abbrev pub Succeeds : List ℕ → Option (List ℕ) → Option (List ℕ) → WritesMade → Told → Type 0
Succeeds text before written calls told =
    Says text Accepted before written calls told.status × (told.halt ≡ None)

-- it ends before its first command, with the line that reports why
abbrev pub Halts : Halt → Option (List ℕ) → Option (List ℕ) → WritesMade → Told → Type 0
Halts cause before written calls told =
    Says (halt_line cause) (status_of_halt cause) before written calls told.status
    × (told.halt ≡ Some cause)

-- a line that was printed of an action that ends with that status
abbrev pub concluded : Result (Unit {0}) PrintFault → Status → Result Status PrintFault
concluded (Ok done) status = Ok status
concluded (Err cut) status = Err cut

-- the program ends behind that line as a run does
abbrev pub EndsWithLine : Result (Unit {0}) PrintFault → Status → WritesMade → ℕ → Type 0
EndsWithLine printed status calls code =
    (end : Status) × (code ≡ code_of end) × Ends (concluded printed status) calls.after end × EndsIfFailed calls end

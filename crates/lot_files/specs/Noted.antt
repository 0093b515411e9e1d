-- What a call of a file says of why it failed, and what is kept of that.
use Rattle.std.specs.Prelude.{◌≡◌, Option, None, Some, Result, Ok, Err}
use Rattle.std.specs.IoError.{error_kind}
use Rattle.std.specs.declared.io.Error.{Error}
use Rattle.std.specs.declared.io.ErrorKind.{ErrorKind}
use Rattle.std.specs.declared.io.ErrorKind.TheVariants.{UnexpectedEof}
use Rattle.sqlite_disk.specs.declared.Files.{Files}
use Rattle.lot_files.specs.Cause.{system_cause}
use Rattle.lot_files.specs.declared.cause.Cause.{Cause}
use Rattle.lot_files.specs.declared.keeper.Keeper.{Ghosts}
use Rattle.lot_files.specs.declared.medium.Medium.{Medium}
use Rattle.lot_files.specs.declared.medium.Medium.TheVariants.{Memory, System}
use Rattle.lot_files.specs.declared.noted.Failure.{Failure}
use Rattle.lot_files.specs.declared.noted.Noted.{Noted}

-- that a file ended says of no device why it failed
abbrev pub cause_of : ErrorKind → Error → Option Error
cause_of UnexpectedEof error = None
cause_of _ error = Some error

-- the error of a call that failed, where that says why
abbrev pub cause_in : {A : Type 0} → Result A Error → Option Error
cause_in (Ok value) = None
cause_in (Err error) = cause_of (error_kind error) error

-- what an error says that is kept
abbrev pub cause_kept : Option Error → Option Cause
cause_kept None = None
cause_kept (Some error) = Some (system_cause error)

-- A cell may hold that error. No clause of the library says what one holds. This definition isn't opened but in the proofs of the calls
-- that put an error there or take it: so what is said of one cell is never said of another.
pub IsInCell : {C : Type 0} → C → Option Error → Type 0
IsInCell cell kept = Unit {0}

pub in_cell : {C : Type 0} (cell : C) (kept : Option Error) → IsInCell cell kept
unfolding IsInCell
in_cell cell kept = tt

-- what the error says that a cell holds
abbrev pub TellsCell : {C : Type 0} → C → Option Cause → Type 0
TellsCell cell cause = (kept : Option Error) × IsInCell cell kept × (cause ≡ cause_kept kept)

-- it is what the error says that some files keep, or nothing
abbrev pub IsKept : Option Cause → Type 0
IsKept cause = (failure : Failure) × TellsCell failure cause

module _ {K : Type 0} (g : Ghosts K) where
  -- the error of a call is kept where there is one
  abbrev pub KeepsWhy : K → Option Error → K → Type 0
  KeepsWhy old None new = new ≡ old
  KeepsWhy old (Some error) new = g.keeps old error new

  -- what the error says that is kept there
  abbrev pub TellsKept : K → Option Cause → Type 0
  TellsKept keeper cause = (kept : Option Error) × g.holds keeper kept × (cause ≡ cause_kept kept)

-- a file of the system is that file, which keeps why a call of it failed
abbrev pub IsNoted : {A B : Type 0} → A → Medium (Noted A) B → Type 0
IsNoted file (System noted) = noted.file ≡ file
IsNoted file (Memory image) = ⊥

-- the same of the two files of a database
abbrev pub AreNoted : {A B : Type 0} → Files A → Files (Medium (Noted A) B) → Type 0
AreNoted files noted = IsNoted files.log noted.log × IsNoted files.db noted.db

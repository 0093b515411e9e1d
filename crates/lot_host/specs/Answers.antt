-- The status of words that ask for nothing to be done.
use Rattle.std.specs.Prelude.{◌≡◌, ◌≢◌, ◌⊎◌, ℕ}
use Rattle.clap.specs.Words.{kind_of}
use Rattle.clap.specs.declared.error.ErrorKind.{ErrorKind}
use Rattle.clap.specs.declared.error.ErrorKind.TheVariants.{DisplayHelp, DisplayVersion}
use Rattle.lot_stream.specs.Status.{code_of}
use Rattle.lot_stream.specs.declared.status.Status.TheVariants.{Accepted, Stopped}
use Rattle.lot_args.specs.declared.fault.WordsFault.{WordsFault}
use Rattle.lot_args.specs.declared.fault.WordsFault.TheVariants.{BadValue, Memory, Misplaced, MissingOptions, Unmatched, Usage}

-- the status of words that can't be used
abbrev pub unusable : ℕ
unusable = 2

-- the status where memory ended, or something can't be opened or written
abbrev pub stopped : ℕ
stopped = code_of Stopped

-- what was asked for is shown, or can't be written
abbrev pub IsShown : ℕ → Type 0
IsShown status = (status ≡ code_of Accepted) ⊎ (status ≡ stopped)

-- The status of what `clap` tells: of help and of the version, which are shown, or of words that it refuses.
pub record IsStatusOfKind (kind : ErrorKind) (status : ℕ) : Type 0 where
  pub shown : (kind ≡ DisplayHelp) ⊎ (kind ≡ DisplayVersion) → IsShown status
  pub refused : kind ≢ DisplayHelp → kind ≢ DisplayVersion → status ≡ unusable

-- The status of words that ask for nothing to be done, by what is wrong with them.
abbrev pub IsStatusOf : WordsFault → ℕ → Type 0
IsStatusOf (Usage error) status = IsStatusOfKind (kind_of error) status
IsStatusOf (Misplaced option) status = status ≡ unusable
IsStatusOf (MissingOptions needed) status = status ≡ unusable
IsStatusOf (BadValue bad) status = status ≡ unusable
IsStatusOf Unmatched status = status ≡ stopped
IsStatusOf Memory status = status ≡ stopped

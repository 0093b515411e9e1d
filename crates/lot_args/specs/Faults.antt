-- The faults that others' errors are.
use Rattle.std.specs.Prelude.{◌≡◌, ◌≢◌}
use Rattle.clap.specs.Words.{kind_of}
use Rattle.clap.specs.declared.error.Error.{Error}
use Rattle.clap.specs.declared.error.ErrorKind.TheVariants as kind
use Rattle.lot_args.specs.declared.fault.WordsFault.{WordsFault}
use Rattle.lot_args.specs.declared.fault.WordsFault.TheVariants.{BadValue, Memory, Misplaced, MissingOptions, Unmatched, Usage}

-- the fault that an error of `clap` is
abbrev pub Refuses : Error → WordsFault → Type 0
Refuses error (Usage told) = (told ≡ error) × (kind_of error ≢ kind.OutOfMemory)
Refuses error (Misplaced option) = ⊥
Refuses error (MissingOptions needed) = ⊥
Refuses error (BadValue bad) = ⊥
Refuses error Unmatched = kind_of error ≡ kind.OutOfMemory
Refuses error Memory = ⊥

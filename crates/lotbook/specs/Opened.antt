-- Why the database of a path isn't opened, by what opens an empty one, what tests a path, and what opens the files of one.
use Rattle.std.specs.Prelude.{◌≡◌, ◌⊎◌, ℕ, List, Option, None, Some}
use Rattle.lot_files.specs.declared.cause.Cause.{Cause}
use Rattle.lot_files.specs.declared.cause.Cause.TheVariants.{Memory}
use Rattle.lot_files.specs.declared.opened.Access.{Access}

module _ (empties : Cause → Type 0) (disallows : List ℕ → Cause → Type 0) (opens : Access → List ℕ → Cause → Type 0) where
  -- its name takes memory, the path can't be that of a book, or its files aren't opened for what is asked; or no empty one is
  abbrev pub Refuses : Option (List ℕ) → Cause → Type 0
  Refuses None cause = empties cause
  Refuses (Some path) cause = (cause ≡ Memory) ⊎ disallows path cause ⊎ ((access : Access) × opens access path cause)

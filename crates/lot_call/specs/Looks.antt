-- What looking at a book leaves of it.
use Rattle.std.specs.Prelude.{OnErr, OnOk, Result}
use Rattle.sqlite.specs.State.{HasCleanDisk, IsUnchanged, State, Survives}
use Rattle.lot_table.specs.Book.{IsUndone}
use Rattle.lot_walk.specs.Step.{StaysOrGoesBack}

-- Nothing changes. After an error nothing changed, or a transaction that was open is rolled back. A crash leaves no more than before.
pub record Looks {A B : Type 0} (old new : State) (result : Result A B) : Type 0 where
  pub same : HasCleanDisk new → OnOk result (IsUnchanged old new)
  pub undone : HasCleanDisk new → OnErr result (IsUndone old new)
  pub crash : Survives old new (λ _. ⊥)

-- The book was looked at, or wasn't, any number of times and whatever came of that. While the connection is open it shows what it
-- showed or, of a transaction that is rolled back, the last commit, which stays. A crash leaves no more than before.
pub record IsLookedAt (old new : State) : Type 0 where
  pub left : HasCleanDisk new → StaysOrGoesBack old new
  pub crash : Survives old new (λ _. ⊥)

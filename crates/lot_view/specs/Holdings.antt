-- What accounts hold, as the entries of rows.
use Rattle.std.specs.Prelude.{ℕ, List, [], ◌∷◌, ◌++◌, ℤ}
use Rattle.std.specs.FinMap as finite
use Rattle.lot_inv.specs.Inventory.{Position as Place, Stock}
use Rattle.lot_book.specs.declared.leg.Position.{Position}

-- what a place in an account's inventory holds, as an entry of its position
abbrev pub entry_in : List ℕ → Place × ℤ → Position × ℤ
entry_in account held = (record { account = account; commodity = held.0.0; lot = held.0.1 }, held.1)

-- what an account holds
abbrev pub entries_in : List ℕ → List (Place × ℤ) → List (Position × ℤ)
entries_in account [] = []
entries_in account (entry ∷ entries) = entry_in account entry ∷ entries_in account entries

-- what accounts hold, one after another
abbrev pub entries_of : List (List ℕ × Stock) → List (Position × ℤ)
entries_of [] = []
entries_of (kept ∷ rest) = entries_in kept.0 (finite.entries kept.1.held) ++ entries_of rest

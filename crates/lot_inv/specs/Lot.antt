-- Lots as they are listed.
use Rattle.std.specs.Prelude.{◌≡◌, ℕ, List, ℤ}
use Rattle.std.specs.List.{AllByRecursion}
use Rattle.lot_cost.specs.declared.lot_key.LotKey.{LotKey}
use Rattle.lot_inv.specs.declared.lot.Lot.{Lot}

-- a lot without its opening number
abbrev pub key_and_units : Lot → LotKey × ℤ
key_and_units lot = (lot.key, lot.units)

-- each lot has the opening number that its key has
abbrev pub AreNumberedBy : (LotKey → ℕ) → List Lot → Type 0
AreNumberedBy opening lots = AllByRecursion (λ (lot : Lot). lot.opening ≡ opening lot.key) lots

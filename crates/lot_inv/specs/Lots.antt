-- The lots of one commodity, in the order of their keys, and how many of them are below zero.
use Rattle.std.specs.Prelude.{◌≡◌, ℕ, ◌+◌, Bool, if◌then◌else◌, List, [], ◌∷◌, Option, None, Some, ℤ, pos, int_lt}
use Rattle.std.specs.BTreeMap.{is_at}
use Rattle.std.specs.Map.{lookup}
use Rattle.std.specs.Ordering.{int_eq}
use Rattle.lot_cost.specs.declared.lot_key.LotKey.{LotKey}
use Rattle.lot_cost.specs.LotKey.{lot_cmp}
use Rattle.lot_inv.specs.declared.lots.OpenLot.{OpenLot}

-- the lot of that key among some, none where it isn't held
abbrev pub lot_at : List (LotKey × OpenLot) → LotKey → Option OpenLot
lot_at lots key = lookup (is_at (lot_cmp key)) lots

-- 1 for a lot whose units pass a test, 0 for another, and for none
abbrev pub counted_in : (ℤ → Bool) → Option OpenLot → ℕ
counted_in test None = 0
counted_in test (Some lot) = if test lot.units then 1 else 0

-- how many lots of a list have units that pass a test
abbrev pub count_of : (ℤ → Bool) → List (LotKey × OpenLot) → ℕ
count_of test [] = 0
count_of test (lot ∷ lots) = counted_in test (Some lot.1) + count_of test lots

abbrev pub is_zero : ℤ → Bool
is_zero units = int_eq units (pos 0)

abbrev pub is_below : ℤ → Bool
is_below units = int_lt units (pos 0)

-- that many of some lots are below zero, and none of them is zero
pub record AreCounted (below : ℕ) (lots : List (LotKey × OpenLot)) : Type 0 where
  pub counted : below ≡ count_of is_below lots
  pub none_zero : count_of is_zero lots ≡ 0

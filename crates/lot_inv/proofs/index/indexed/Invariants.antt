use Rattle.std.proofs.Common.{◌≡◌}
use Rattle.std.specs.BTreeMap.{get}
use Rattle.std.specs.List.Sorted.{IsStrictlySortedBy}
use Rattle.std.specs.Map.{keys_of}
use Rattle.std.specs.Option.{option_or}
use Rattle.lot_cost.specs.LotKey.{lot_cmp}
use Rattle.lot_inv.specs.Index.{Place, in_place, place_cmp}
use Rattle.lot_inv.specs.Lots.{lot_at}
use Rattle.lot_inv.proofs.index.indexed.Given as goal

-- at each place, what is left has the lot that belongs there, or else the index has it
abbrev pub invariant-loop-key : goal.invariant-loop-key
invariant-loop-key l = record {
  sorted : IsStrictlySortedBy lot_cmp (keys_of l.key-iterator);
  each : (at : Place) → option_or (in_place l.foremost at (lot_at l.key-iterator at.1)) (get place_cmp l.index at)
      ≡ in_place l.foremost at (lot_at l.lots.entries at.1);
}

use Rattle.std.proofs.Common.{◌≡◌, ◌++◌, ◌+◌, ◌≤◌, map}
use Rattle.std.specs.Prelude.{unsigned_abs}
use Rattle.lot_inv.specs.Index.{in_order}
use Rattle.lot_inv.specs.Holding.{listed, takeable_lots}
use Rattle.lot_inv.specs.Inventory.{held_in, with_number}
use Rattle.lot_inv.specs.Lot.{key_and_units}
use Rattle.lot_inv.proofs.LentLemmas.{AreByRank}
use Rattle.lot_inv.proofs.lots.Lots.in_turn.Given as goal

-- the lots so far and those of what is left are all that are gone through, by rank, and they hold what is wanted but for what is
-- left of it
abbrev pub invariant-loop-at : goal.invariant-loop-at
invariant-loop-at l =
    let behind = listed (in_order l.at-iterator) in
    record {
      all : l.lots.items ++ takeable_lots l.units (with_number l.number l.spec) behind
          ≡ takeable_lots l.units (with_number l.number l.spec) (listed (in_order l.initial.at-iterator));
      by_rank : AreByRank l.foremost (l.lots.items ++ behind);
      held : unsigned_abs l.units ≤ l.left + held_in (map key_and_units l.lots.items);
    }

use Rattle.std.proofs.Common.{◌≡◌, ◌++◌, ◌+◌, ◌≤◌, length, map}
use Rattle.std.specs.Prelude.{unsigned_abs}
use Rattle.lot_inv.specs.Foremost.{gone_through}
use Rattle.lot_inv.specs.Holding.{listed, takeable_lots}
use Rattle.lot_inv.specs.Inventory.{held_in, with_number}
use Rattle.lot_inv.specs.Lot.{key_and_units}
use Rattle.lot_inv.proofs.LentLemmas.{AreByRank}
use Rattle.lot_inv.proofs.lots.Lots.by_day.Given as goal

-- the lots so far and those of what is left are all that are gone through, by rank, and they hold what is wanted but for
-- what is left of it
abbrev pub invariant-loop-key : goal.invariant-loop-key
invariant-loop-key l =
    let behind = listed (gone_through l.foremost l.entries) in
    record {
      all : l.lots.items ++ takeable_lots l.units (with_number l.number l.spec) behind
          ≡ takeable_lots l.units (with_number l.number l.spec) (listed (gone_through l.foremost l.self));
      by_rank : AreByRank l.foremost (l.lots.items ++ behind);
      held : unsigned_abs l.units ≤ l.left + held_in (map key_and_units l.lots.items);
    }

abbrev pub decreases-loop-key : goal.decreases-loop-key
decreases-loop-key l = length (gone_through l.foremost l.entries)

use Rattle.std.proofs.Common.{◌+◌, ◌*◌, ◌≤◌, length}
use Rattle.std.specs.Prelude.{◌^◌}
use Rattle.lot_num.specs.Amount.{units_limit}
use Rattle.lot_inv.specs.Holding.{listed, takeable_lots}
use Rattle.lot_inv.specs.Inventory.{with_number}
use Rattle.lot_inv.proofs.AvailableLemmas.{Counted}
use Rattle.lot_inv.proofs.lots.Lots.available.Given as goal

-- the lots so far were counted of all of them, and there is room for what is left
abbrev pub invariant-loop-key : goal.invariant-loop-key
invariant-loop-key l =
    let spec = with_number l.number l.spec in
    record {
      counted : Counted (takeable_lots l.units spec (listed l.self)) (takeable_lots l.units spec (listed l.key-iterator)) l.available.lots
          l.available.held l.available.only;
      few : l.available.lots + length l.key-iterator ≤ 2 ^ 63;
      room : l.available.held + length l.key-iterator * units_limit ≤ 2 ^ 63 * units_limit;
    }

use Rattle.std.proofs.Common.{◌≡◌, ◌+◌}
use Rattle.lot_view.specs.View.{known}
use Rattle.lot_posting.proofs.TallyCount.{lots_had, lots_listed}
use Rattle.lot_posting.proofs.tally.Tally.count_lots.Given as goal

-- the lots of the rows so far and those of the rows that are left are those of all rows
abbrev pub invariant-loop-position : goal.invariant-loop-position
invariant-loop-position l =
    let held = (known l.view).held l.account in
    record {
      had : l.had + lots_had l.account l.commodity held l.position-iterator ≡ lots_had l.account l.commodity held l.self.positions.entries;
      listed : l.listed + lots_listed l.account l.commodity l.position-iterator ≡ lots_listed l.account l.commodity l.self.positions.entries;
    }

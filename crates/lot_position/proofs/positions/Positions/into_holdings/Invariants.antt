use Rattle.lot_position.proofs.RowLemmas.{RowsSoFar}
use Rattle.lot_position.proofs.positions.Positions.into_holdings.Given as goal

-- the rows so far and those of what is left are all
abbrev pub invariant-loop-position : goal.invariant-loop-position
invariant-loop-position l = RowsSoFar l.rows.items l.position-iterator l.fn.self.sums

-- The order is total, and its ties have one number.
use Rattle.lot_sequence.proofs.OrderLemmas.{rows_total, ties}
use Rattle.lot_sequence.proofs.laws.rows_are_ordered.Goals as goal

pub returns-clause-order : goal.returns-clause-order
returns-clause-order c = rows_total

pub returns-clause-ties : goal.returns-clause-ties
returns-clause-ties c = ties

use Rattle.lot_register.proofs.left.Lefts.set.Goals as goal

pub returns-clause-sums : goal.returns-clause-sums
returns-clause-sums c = c.in_ok-insert.ensures.updates.0

-- The sum with the amount is set.
use Rattle.lot_call.proofs.sums.Sums.add.Goals as goal

pub returns-in-Some-clause-added : goal.returns-in-Some-clause-added
returns-in-Some-clause-added c amounts sums = c.set.ensures.sums amounts _ sums (c.in-Some.ensures amounts sums).1

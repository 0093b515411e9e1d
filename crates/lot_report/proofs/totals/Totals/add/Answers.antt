use Rattle.lot_report.proofs.totals.Totals.add.Goals as goal

pub returns-in-Some-clause-added : goal.returns-in-Some-clause-added
returns-in-Some-clause-added c amounts sums = c.set.ensures.sums amounts _ sums (c.in-Some.ensures amounts sums).1

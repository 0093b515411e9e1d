use Rattle.std.specs.Prelude.{◌+ℤ◌}
use Rattle.lot_book.specs.Currencies.{sum_in}
use Rattle.lot_tally.proofs.SumLemmas.{not_wide_is, total_set}
use Rattle.lot_tally.proofs.totals.Totals.add.Goals as goal

pub returns-in-Some : goal.returns-in-Some
returns-in-Some c amounts sums =
    total_set amounts c.args.currency.now c.args.amount (sum_in amounts c.args.currency.now +ℤ c.args.amount) _ c.set.result
    (c.in-Some.ensures amounts sums).0
    (c.set.ensures.sums amounts c.args.amount sums (c.in-Some.ensures amounts sums).1) c.set.ensures.cause

pub returns-in-None : goal.returns-in-None
returns-in-None c amounts sums = not_wide_is (sum_in amounts c.args.currency.now +ℤ c.args.amount) (c.in-None.ensures amounts sums)

-- What units are worth, with or without a fee, is far below the greatest weight.
use Rattle.std.proofs.Common.{arith}
use Rattle.std.proofs.lemmas.Int.{ints}
use Rattle.lot_import.proofs.deal.moved.Goals as goal

pub sum-requires : goal.sum-requires
sum-requires c = omega (arith, ints, c.worth-worth.ensures.bound, c.wide-fee.ensures.bound)

pub sum-requires-in-Sell : goal.sum-requires-in-Sell
sum-requires-in-Sell c = omega (arith, ints, c.worth-worth.ensures.bound, c.wide-fee.ensures.bound, c.negated-in-Sell.ensures)

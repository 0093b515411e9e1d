-- Products of units and rates are far from the limits.
use Rattle.std.proofs.Common.{arith}
use Rattle.std.proofs.lemmas.Int.{ints}
use Rattle.lot_deal_read.proofs.figures.Figures.difference.Goals as goal

pub overflow_add-result : goal.overflow_add-result
overflow_add-result c = omega (arith, ints, c.product-amount.ensures.bound, c.product-fee.ensures.bound, c.with_fee.ensures.bound, c.mantissa-worth.ensures.value)

pub overflow_add-result-2 : goal.overflow_add-result-2
overflow_add-result-2 c = omega (arith, ints, c.product-amount.ensures.bound, c.product-fee.ensures.bound, c.with_fee.ensures.bound, c.mantissa-worth.ensures.value)

pub returns-clause-bound : goal.returns-clause-bound
returns-clause-bound c = omega (arith, ints, c.product-amount.ensures.bound, c.product-fee.ensures.bound, c.with_fee.ensures.bound, c.mantissa-worth.ensures.value)

pub returns-clause-value : goal.returns-clause-value
returns-clause-value c = omega (arith, ints, c.product-amount.ensures, c.product-fee.ensures, c.with_fee.ensures, c.mantissa-worth.ensures)

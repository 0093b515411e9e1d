-- The nearest quotient of the sizes is the nearest rate, where it is a rate.
use Rattle.std.proofs.Common.{◌≡◌, pos, ◌*ℤ◌, arith}
use Rattle.std.proofs.lemmas.Int.{ints}
use Rattle.lot_num.specs.Amount.{one}
use Rattle.lot_rounding.proofs.NearestLemmas.{rate_every, rate_some}
use Rattle.lot_rounding.proofs.nearest.nearest_rate.Goals as goal

pub returns-clause-some : goal.returns-clause-some
returns-clause-some c =
    let sum : pos c.unsigned_abs-total.result ≡ c.args.total *ℤ pos one = omega (arith, ints, c.wide.ensures.value, c.mantissa-2.ensures.value, c.unsigned_abs-total.ensures.value) in
    rate_some c.args.units c.args.total c.unsigned_abs-total.result c.from.result c.nearest_magnitude.result c.rate_of.result sum
    (omega (arith, ints, c.mantissa.ensures.value, c.unsigned_abs-divisor.ensures.value)) (omega arith) c.nearest_magnitude.ensures.nearest c.rate_of.ensures

pub returns-clause-every : goal.returns-clause-every
returns-clause-every c rate other =
    let sum : pos c.unsigned_abs-total.result ≡ c.args.total *ℤ pos one = omega (arith, ints, c.wide.ensures.value, c.mantissa-2.ensures.value, c.unsigned_abs-total.ensures.value) in
    rate_every c.args.units c.args.total c.unsigned_abs-total.result c.from.result c.nearest_magnitude.result rate c.rate_of.result sum
    (omega (arith, ints, c.mantissa.ensures.value, c.unsigned_abs-divisor.ensures.value)) (omega arith) c.nearest_magnitude.ensures.nearest c.rate_of.ensures other

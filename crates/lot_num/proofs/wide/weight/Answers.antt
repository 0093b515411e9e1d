-- The absolute product is the product of the absolute factors, of which the rate is below its limit.
use Rattle.std.proofs.Common.{◌≡◌, ◌≤◌, ◌*ℤ◌, pos, arith, mul-le-mul_left}
use Rattle.std.specs.Prelude.{unsigned_abs}
use Rattle.std.proofs.lemmas.Int.{unsigned_abs-mul}
use Rattle.std.proofs.lemmas.Grind.{common_steps}
use Rattle.lot_num.specs.Amount.{rate_limit}
use Rattle.lot_num.proofs.wide.weight.Goals as goal

pub returns-clause-bound : goal.returns-clause-bound
returns-clause-bound c =
    let units = c.args.units in
    let rate = c.args.rate in
    let value : c.exactly.result ≡ units *ℤ pos rate = grind (arith, common_steps) in
    let below : rate ≤ rate_limit = omega (arith, c.mantissa-2.ensures.in_range) in
    rw (value, unsigned_abs-mul units (pos rate)) (mul-le-mul_left (unsigned_abs units) below)

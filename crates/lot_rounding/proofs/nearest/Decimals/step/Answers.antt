-- A power of ten is positive, and the greatest one has the greatest exponent.
use Rattle.std.proofs.Common.{arith}
use Rattle.lot_rounding.proofs.NearestLemmas.{step_few, step_positive}
use Rattle.lot_rounding.proofs.nearest.Decimals.step.Goals as goal

pub returns-clause-some : goal.returns-clause-some
returns-clause-some c = omega (arith, c.pow.ensures, step_positive c.self.inside.count)

pub returns-clause-few : goal.returns-clause-few
returns-clause-few c = omega (arith, c.pow.ensures, step_few c.self.inside.count)

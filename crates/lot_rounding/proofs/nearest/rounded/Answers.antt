-- The number of steps is the nearest one, so it is in range.
use Rattle.std.proofs.Common.{◌≡◌, to_z, of_z, rules, arith}
use Rattle.std.specs.Int.{w128}
use Rattle.std.proofs.lemmas.Int.{ints}
use Rattle.lot_rounding.specs.Nearest.{IsNearest, step}
use Rattle.lot_rounding.proofs.NearestLemmas.{rounded_in_range}
use Rattle.lot_rounding.proofs.nearest.rounded.Goals as goal

pub in_steps-requires : goal.in_steps-requires
in_steps-requires c =
    let read : to_z w128 (of_z w128 c.mantissa.result) ≡ c.args.amount = omega (arith, ints, c.mantissa.ensures.value) in
    let steps : to_z w128 (of_z w128 c.nearest.result) ≡ c.nearest.result = omega (arith, ints) in
    let nearest : IsNearest c.args.amount (step c.args.decimals) c.nearest.result = rw (read, c.step-step.ensures.value) at c.nearest.ensures in
    rw (steps, c.step-step.ensures.value)
    (rounded_in_range c.args.amount c.nearest.result c.args.decimals (search rules) c.mantissa.ensures.in_range nearest)

pub returns : goal.returns
returns c =
    let read : to_z w128 (of_z w128 c.mantissa.result) ≡ c.args.amount = omega (arith, ints, c.mantissa.ensures.value) in
    let steps : to_z w128 (of_z w128 c.nearest.result) ≡ c.nearest.result = omega (arith, ints) in
    let nearest : IsNearest c.args.amount (step c.args.decimals) c.nearest.result = rw (read, c.step-step.ensures.value) at c.nearest.ensures in
    record {
      steps = c.nearest.result;
      is_steps = rw (steps, c.step-step.ensures.value) at c.in_steps.ensures;
      nearest = nearest;
    }

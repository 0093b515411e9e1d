-- The digits of digits are themselves.
use Rattle.std.proofs.Common.{arith}
use Rattle.lot_field.proofs.NumberLemmas.{scaled-value}
use Rattle.lot_field.proofs.numbers.at_scale.Goals as goal

pub overflow_mul-result : goal.overflow_mul-result
overflow_mul-result c =
    let both = scaled-value c.args.decimals.now c.written.result c.pow.result c.requires.few c.requires.digits c.written.ensures c.pow.ensures in
    omega (arith, both.1)

pub returns-clause-value : goal.returns-clause-value
returns-clause-value c = (scaled-value c.args.decimals.now c.written.result c.pow.result c.requires.few c.requires.digits c.written.ensures c.pow.ensures).0

pub returns-clause-below_one : goal.returns-clause-below_one
returns-clause-below_one c = (scaled-value c.args.decimals.now c.written.result c.pow.result c.requires.few c.requires.digits c.written.ensures c.pow.ensures).1

use Rattle.std.proofs.Common.{arith}
use Rattle.lot_cli.proofs.NumberLemmas.{more_in_a_row, next_fits}
use Rattle.lot_cli.proofs.run.in_a_row.Goals as goal

pub overflow_add-from : goal.overflow_add-from
overflow_add-from c =
    let next = next_fits c.args.numbers.now c.args.from c.numbers.index c.requires (omega (arith, c.ranges.from.fits)) (omega (arith, c.numbers-test.true)) c.numbers.invariant in
    omega (arith, next)

pub numbers-preserved : goal.numbers-preserved
numbers-preserved c =
    more_in_a_row c.args.numbers.now c.args.from c.numbers.index c.numbers-test.true c.numbers.invariant c.if-number-from.false

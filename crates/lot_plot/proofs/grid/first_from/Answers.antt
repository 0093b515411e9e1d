use Rattle.lot_plot.proofs.GridLemmas.{counted_above, counted_here}
use Rattle.lot_plot.proofs.grid.first_from.Goals as goal

pub returns-then-towards_zero-low : goal.returns-then-towards_zero-low
returns-then-towards_zero-low c =
    rw (← c.mantissa-low.ensures.value)
    (counted_above c.mantissa-low.result c.args.unit (rw c.mantissa-low.ensures.value c.mantissa-low.ensures.in_range)
    (record { sfits = c.mantissa-low.type_inv }) c.requires.some c.requires.small c.ranges.unit c.if-towards_zero-low.true)

pub returns-else-towards_zero-low : goal.returns-else-towards_zero-low
returns-else-towards_zero-low c =
    rw (← c.mantissa-low.ensures.value)
    (counted_here c.mantissa-low.result c.args.unit (record { sfits = c.mantissa-low.type_inv }) c.requires.some c.ranges.unit
    c.if-towards_zero-low.false)

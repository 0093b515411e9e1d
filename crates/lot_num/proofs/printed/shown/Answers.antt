-- A turn takes one zero off; at the end none is left to take.
use Rattle.std.proofs.Common.{◌∙◌}
use Rattle.lot_num.proofs.TextLemmas.{shown-turn, shown-least, shown-nonzero}
use Rattle.lot_num.proofs.printed.shown.Goals as goal

pub loop-places-preserved : goal.loop-places-preserved
loop-places-preserved c =
    shown-turn c.args.decimals.least c.loop-places.places c.loop-places.digits c.loop-places-test.true c.if-digits-eq0.true
    ∙ c.loop-places.invariant

pub returns-else-digits-eq0 : goal.returns-else-digits-eq0
returns-else-digits-eq0 c =
    shown-nonzero c.args.decimals.least c.loop-places.places c.loop-places.digits c.if-digits-eq0.false
    ∙ c.loop-places.invariant

pub returns-after-loop-places : goal.returns-after-loop-places
returns-after-loop-places c =
    shown-least c.args.decimals.least c.loop-places.places c.loop-places.digits c.loop-places-test.false
    ∙ c.loop-places.invariant

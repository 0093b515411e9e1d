-- There is one crumb, so where that is out of range there is none.
use Rattle.std.proofs.Common.{subst, ℤ}
use Rattle.lot_num.specs.Amount.{IsUnits}
use Rattle.lot_completion.specs.Completion.{stated}
use Rattle.lot_completion.specs.Crumbs.{whole_of}
use Rattle.lot_completion.proofs.OneLemmas.{crumb_one}
use Rattle.lot_completion.proofs.completion.crumb_of.Goals as goal

pub returns-in-None-clause-none : goal.returns-in-None-clause-none
returns-in-None-clause-none c none other is =
    let same = crumb_one c.args.fill (stated c.args.left.now (c.args.currency.now, c.args.residual)) c.args.residual other.1 c.crumb-crumb.result
    is.amount c.crumb-crumb.ensures in
    let in_range = subst (λ (z : ℤ). IsUnits (whole_of z)) same is.in_range in
    let barred = rw c.in-None.is at c.whole_of.ensures in barred in_range

-- What either of the parts gives.
use Rattle.std.proofs.Common.{◌++◌}
use Rattle.std.proofs.lemmas.Result.{err_from_is_err_and}
use Rattle.lot_syntax.specs.Shape.{listed}
use Rattle.lot_read.specs.Checked.{either}
use Rattle.lot_read.specs.Meaning.{part_items}
use Rattle.lot_read.proofs.GivenLemmas.{either_means, outside_before_listed, outside_behind_listed}
use Rattle.lot_read.proofs.given.Given.by_all.Goals as goal

pub returns-clause-means : goal.returns-clause-means
returns-clause-means g c =
    let parts = c.args.parts.now in
    let Means = g.N.CostNumber.Means in
    let second = c.in_ok-second.second in
    let third = c.in_ok-third.third in
    let others = either_means Means parts.second (listed parts.third) second third c.in_ok-second.ensures.means c.in_ok-third.ensures.means in
    rw (c.or-2.ensures, c.or.ensures) (either_means Means parts.first (listed parts.second ++ listed parts.third)
    c.in_ok-first.first (either second third) c.in_ok-first.ensures.means others)

pub returns-in_err-second-clause-outside : goal.returns-in_err-second-clause-outside
returns-in_err-second-clause-outside g c =
    let parts = c.args.parts.now in
    let items = part_items g.N.CostNumber.item in
    let fault = c.in_err-second.field-0.0 in
    let others = outside_before_listed items (listed parts.second) (listed parts.third) fault c.in_err-second.ensures.outside in
    let first = outside_behind_listed items (listed parts.first) (listed parts.second ++ listed parts.third) fault c.in_ok-first.ensures.inside others in
    let p = err_from_is_err_and c.from_residual-in_err-second.result c.from_residual-in_err-second.ensures.1 in
    rw (p.1, p.2) first

pub returns-in_err-third-clause-outside : goal.returns-in_err-third-clause-outside
returns-in_err-third-clause-outside g c =
    let parts = c.args.parts.now in
    let items = part_items g.N.CostNumber.item in
    let fault = c.in_err-third.field-0.0 in
    let behind = outside_behind_listed items (listed parts.second) (listed parts.third) fault c.in_ok-second.ensures.inside
    c.in_err-third.ensures.outside in
    let first = outside_behind_listed items (listed parts.first) (listed parts.second ++ listed parts.third) fault c.in_ok-first.ensures.inside behind in
    let p = err_from_is_err_and c.from_residual-in_err-third.result c.from_residual-in_err-third.ensures.1 in
    rw (p.1, p.2) first

-- Lots that are lent by days or by numbers are lent so by their opening numbers too.
use Rattle.std.proofs.Common.{sym, ◌∙◌, unsigned_abs}
use Rattle.std.proofs.lemmas.Result.{IfOk-weaker}
use Rattle.lot_inv.specs.declared.foremost.Foremost.TheVariants.{Highest}
use Rattle.lot_inv.specs.Holding.{listed, takeable_lots}
use Rattle.lot_inv.specs.Inventory.{with_number}
use Rattle.lot_inv.proofs.LentLemmas.{lent_together}
use Rattle.lot_inv.proofs.lots.Lots.takeable.Goals as goal

pub returns-in-Highest : goal.returns-in-Highest
returns-in-Highest c =
    let all = takeable_lots c.args.units (with_number c.args.number.now c.args.spec.now) (listed c.args.self.now) in
    IfOk-weaker c.at_highest.result _ _
    (λ lots lent. lent_together c.args.foremost Highest (unsigned_abs c.args.units) all lots.items (sym c.in-Highest.is ∙ c.together.ensures.value) lent)
    c.at_highest.ensures

pub returns-in_default-together : goal.returns-in_default-together
returns-in_default-together c =
    let all = takeable_lots c.args.units (with_number c.args.number.now c.args.spec.now) (listed c.args.self.now) in
    IfOk-weaker c.by_day.result _ _
    (λ lots lent. lent_together c.args.foremost c.together.result (unsigned_abs c.args.units) all lots.items c.together.ensures.value lent)
    c.by_day.ensures

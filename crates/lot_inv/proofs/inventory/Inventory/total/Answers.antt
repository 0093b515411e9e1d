-- The lots of a commodity are those of its holding.
use Rattle.std.proofs.Common.{◌≡◌, option_copied, sym, ap, ◌∙◌, rules}
use Rattle.std.specs.Map.{values_of}
use Rattle.lot_num.specs.Sum.{sum_of}
use Rattle.lot_inv.specs.Holding.{units_in}
use Rattle.lot_inv.specs.Inventory.{sum}
use Rattle.lot_inv.proofs.InventoryLemmas.{lots_seen, lots_at}
use Rattle.lot_inv.proofs.inventory.Inventory.total.Goals as goal

pub returns-in-Some : goal.returns-in-Some
returns-in-Some c =
    let lots = lots_seen c.self.inside.held.entries c.args.self.now c.args.commodity.now (option_copied c.get.result) c.self.invariant.0 c.self.view_is c.get.ensures.value in
    let total : sum c.args.self.now.held c.args.commodity.now ≡ c.total.result = ap (λ ls. sum_of (values_of ls)) (lots ∙ ap (λ o. units_in (lots_at (option_copied o))) c.in-Some.is) ∙ sym c.total.ensures in
    rw total (search rules)

pub returns-in-None : goal.returns-in-None
returns-in-None c =
    let lots = lots_seen c.self.inside.held.entries c.args.self.now c.args.commodity.now (option_copied c.get.result) c.self.invariant.0 c.self.view_is c.get.ensures.value in
    ap (λ ls. sum_of (values_of ls)) (sym (lots ∙ ap (λ o. units_in (lots_at (option_copied o))) c.in-None.is))

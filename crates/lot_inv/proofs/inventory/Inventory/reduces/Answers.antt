-- The lots of a commodity are those of its holding.
use Rattle.std.proofs.Common.{option_copied, sym, ap, ◌∙◌}
use Rattle.std.specs.List.{list_any}
use Rattle.std.specs.Map.{values_of}
use Rattle.lot_inv.specs.Holding.{units_in}
use Rattle.lot_inv.specs.Inventory.{other_sign}
use Rattle.lot_inv.proofs.InventoryLemmas.{lots_seen, lots_at}
use Rattle.lot_inv.proofs.inventory.Inventory.reduces.Goals as goal

pub returns-in-Some : goal.returns-in-Some
returns-in-Some c =
    let lots = lots_seen c.self.inside.held.entries c.args.self.now c.args.commodity.now (option_copied c.get.result) c.self.invariant.0 c.self.view_is c.get.ensures.value in
    c.has_other_sign.ensures ∙ ap (λ ls. list_any (λ held. other_sign held c.args.units) (values_of ls)) (sym (lots ∙ ap (λ o. units_in (lots_at (option_copied o))) c.in-Some.is))

pub returns-in-None : goal.returns-in-None
returns-in-None c =
    let lots = lots_seen c.self.inside.held.entries c.args.self.now c.args.commodity.now (option_copied c.get.result) c.self.invariant.0 c.self.view_is c.get.ensures.value in
    ap (λ ls. list_any (λ held. other_sign held c.args.units) (values_of ls)) (sym (lots ∙ ap (λ o. units_in (lots_at (option_copied o))) c.in-None.is))

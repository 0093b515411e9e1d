-- The lots of a commodity are those of its holding.
use Rattle.std.proofs.Common.{length, option_copied, sym, ap, ◌∙◌}
use Rattle.std.proofs.lemmas.List.{length-map}
use Rattle.lot_inv.specs.Holding.{units_in}
use Rattle.lot_inv.proofs.InventoryLemmas.{lots_seen, lots_at}
use Rattle.lot_inv.proofs.inventory.Inventory.lots.Goals as goal

pub returns-in-Some : goal.returns-in-Some
returns-in-Some c =
    let lots = lots_seen c.self.inside.held.entries c.args.self.now c.args.commodity.now (option_copied c.get.result) c.self.invariant.0 c.self.view_is c.get.ensures.value in
    c.len.ensures ∙ sym (length-map c.in-Some.holding.now.lots _)
    ∙ ap length (sym (lots ∙ ap (λ o. units_in (lots_at (option_copied o))) c.in-Some.is))

pub returns-in-None : goal.returns-in-None
returns-in-None c =
    let lots = lots_seen c.self.inside.held.entries c.args.self.now c.args.commodity.now (option_copied c.get.result) c.self.invariant.0 c.self.view_is c.get.ensures.value in
    ap length (sym (lots ∙ ap (λ o. units_in (lots_at (option_copied o))) c.in-None.is))

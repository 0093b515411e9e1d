-- The opening number of a lot is what the holding of its commodity has.
use Rattle.std.proofs.Common.{Some, option_copied, sym, ap, ◌∙◌}
use Rattle.std.specs.Prelude.{option_and_then}
use Rattle.lot_inv.specs.declared.inventory.Holding.{Holding}
use Rattle.lot_inv.specs.Holding.{held_at, opening_of}
use Rattle.lot_inv.proofs.InventoryLemmas.{opening_seen}
use Rattle.lot_inv.proofs.inventory.Inventory.opening.Goals as goal

pub returns-in-Some : goal.returns-in-Some
returns-in-Some c =
    let key = c.args.key.now in
    c.opening.ensures
    ∙ sym (opening_seen c.self.inside.held.entries c.args.self.now c.args.commodity.now key (option_copied c.get.result) c.self.invariant.0 c.self.view_is c.get.ensures.value
    ∙ ap (λ o. opening_of (option_and_then (λ (holding : Holding). held_at holding (Some key)) (option_copied o))) c.in-Some.is)

pub returns-in-None : goal.returns-in-None
returns-in-None c =
    let key = c.args.key.now in
    sym (opening_seen c.self.inside.held.entries c.args.self.now c.args.commodity.now key (option_copied c.get.result) c.self.invariant.0 c.self.view_is c.get.ensures.value
    ∙ ap (λ o. opening_of (option_and_then (λ (holding : Holding). held_at holding (Some key)) (option_copied o))) c.in-None.is)

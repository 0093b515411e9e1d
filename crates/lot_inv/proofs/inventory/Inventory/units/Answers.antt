-- What the map has at a position is what the holding of its commodity has.
use Rattle.std.proofs.Common.{option_copied, sym, ap, ◌∙◌, pos}
use Rattle.std.specs.Prelude.{option_and_then}
use Rattle.std.specs.Option.{unwrap_or}
use Rattle.lot_inv.specs.declared.inventory.Holding.{Holding}
use Rattle.lot_inv.specs.Holding.{held_at, units_of}
use Rattle.lot_inv.specs.Inventory.{non_zero}
use Rattle.lot_inv.proofs.InventoryLemmas.{found_seen, holding_seen, held_at-nonzero}
use Rattle.lot_inv.proofs.inventory.Inventory.units.Goals as goal

pub returns-in-Some-clause-value : goal.returns-in-Some-clause-value
returns-in-Some-clause-value c =
    let key = option_copied c.args.key in
    let found = found_seen c.self.inside.held.entries c.args.self.now c.args.commodity.now key (option_copied c.get.result) c.self.invariant.0 c.self.view_is c.get.ensures.value
    ∙ ap (λ o. units_of (option_and_then (λ (holding : Holding). held_at holding key) (option_copied o))) c.in-Some.is in
    c.units.ensures ∙ ap (λ o. unwrap_or o (pos 0)) (sym found)

pub returns-in-Some-clause-held : goal.returns-in-Some-clause-held
returns-in-Some-clause-held c =
    let key = option_copied c.args.key in
    let found = found_seen c.self.inside.held.entries c.args.self.now c.args.commodity.now key (option_copied c.get.result) c.self.invariant.0 c.self.view_is c.get.ensures.value
    ∙ ap (λ o. units_of (option_and_then (λ (holding : Holding). held_at holding key) (option_copied o))) c.in-Some.is in
    let is = holding_seen c.self.inside.held.entries c.args.commodity.now c.in-Some.holding.now c.self.invariant.0 (ap option_copied (sym c.in-Some.is) ∙ c.get.ensures.value) in
    found ∙ held_at-nonzero c.in-Some.holding.now key is ∙ ap non_zero (sym c.units.ensures)

pub returns-in-None-clause-value : goal.returns-in-None-clause-value
returns-in-None-clause-value c =
    let key = option_copied c.args.key in
    let found = found_seen c.self.inside.held.entries c.args.self.now c.args.commodity.now key (option_copied c.get.result) c.self.invariant.0 c.self.view_is c.get.ensures.value
    ∙ ap (λ o. units_of (option_and_then (λ (holding : Holding). held_at holding key) (option_copied o))) c.in-None.is in
    ap (λ o. unwrap_or o (pos 0)) (sym found)

pub returns-in-None-clause-held : goal.returns-in-None-clause-held
returns-in-None-clause-held c =
    let key = option_copied c.args.key in
    found_seen c.self.inside.held.entries c.args.self.now c.args.commodity.now key (option_copied c.get.result) c.self.invariant.0 c.self.view_is c.get.ensures.value
    ∙ ap (λ o. units_of (option_and_then (λ (holding : Holding). held_at holding key) (option_copied o))) c.in-None.is

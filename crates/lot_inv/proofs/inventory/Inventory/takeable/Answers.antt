-- The lots of a commodity are those of its holding.
use Rattle.std.proofs.Common.{[], List, option_copied, sym, ap, ◌∙◌, subst, unsigned_abs}
use Rattle.std.proofs.lemmas.List.Sorted.{IsPermutation-refl}
use Rattle.std.proofs.lemmas.Result.{IfOk-weaker}
use Rattle.lot_inv.specs.Foremost.{AreLentOf}
use Rattle.lot_inv.specs.declared.lot.Lot.{Lot}
use Rattle.lot_inv.specs.Inventory.{with_number}
use Rattle.lot_inv.proofs.FittingLemmas.{none_numbered, numbered-takeable}
use Rattle.lot_inv.proofs.InventoryLemmas.{holding_seen}
use Rattle.lot_inv.proofs.inventory.Inventory.takeable.Goals as goal

pub takeable-requires-clause-sorted : goal.takeable-requires-clause-sorted
takeable-requires-clause-sorted c =
    (holding_seen c.self.inside.held.entries c.args.commodity.now c.in-Some.holding.now c.self.invariant.0 (ap option_copied (sym c.in-Some.is) ∙ c.get.ensures.value)).sorted

pub returns-in-Some : goal.returns-in-Some
returns-in-Some c =
    let spec = with_number c.args.number.now c.args.spec.now in
    let same = numbered-takeable c.self.inside.held.entries c.args.self.now c.args.commodity.now c.self.invariant.0 c.self.view_is c.args.units spec
    c.in-Some.holding.now (ap option_copied (sym c.in-Some.is) ∙ c.get.ensures.value) in
    IfOk-weaker c.takeable.result _ _
    (λ found lent. subst (λ (ls : List Lot). AreLentOf c.args.foremost (unsigned_abs c.args.units) ls found.items) same lent) c.takeable.ensures

pub returns-in-None : goal.returns-in-None
returns-in-None c =
    let spec = with_number c.args.number.now c.args.spec.now in
    let none = none_numbered c.self.inside.held.entries c.args.self.now c.args.commodity.now c.self.invariant.0 c.self.view_is c.args.units spec
    (ap option_copied (sym c.in-None.is) ∙ c.get.ensures.value) in
    subst (λ (ls : List Lot). AreLentOf c.args.foremost (unsigned_abs c.args.units) ls c.new.result.items) none
    (subst (AreLentOf c.args.foremost (unsigned_abs c.args.units) []) (sym c.new.ensures.items)
    (record { others = []; same = IsPermutation-refl []; later = tt; enough = λ enough. enough }))

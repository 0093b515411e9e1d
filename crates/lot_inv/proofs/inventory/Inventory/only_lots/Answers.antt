-- The lots of a commodity are those of its holding.
use Rattle.std.proofs.Common.{[], Some, option_copied, refl, sym, ap, ◌∙◌}
use Rattle.std.specs.List.Sorted.{IsStrictlySortedBy}
use Rattle.std.specs.Prelude.{option_and_then}
use Rattle.std.proofs.lemmas.Result.{IfOk-weaker}
use Rattle.lot_inv.specs.declared.inventory.Holding.{Holding}
use Rattle.lot_inv.specs.Holding.{held_at, opening_of, units_in}
use Rattle.lot_inv.specs.Inventory.{Stock, opened_at}
use Rattle.lot_inv.proofs.InventoryLemmas.{holding_seen, lots_at, lots_seen, opening_seen}
use Rattle.lot_inv.proofs.OnlyLotsLemmas.{numbers-with_lots, only-with_lots}
use Rattle.lot_inv.proofs.RowLemmas.{none_in_units}
use Rattle.lot_inv.proofs.SetLemmas.{on_err-then}
use Rattle.lot_inv.proofs.inventory.Inventory.only_lots.Goals as goal

pub returns-in-Some-clause-lots : goal.returns-in-Some-clause-lots
returns-in-Some-clause-lots c =
    let lots = lots_seen c.self.inside.held.entries c.args.self.now c.args.commodity.now (option_copied c.get.result) c.self.invariant.0 c.self.view_is c.get.ensures.value in
    let is = holding_seen c.self.inside.held.entries c.args.commodity.now c.in-Some.holding.now c.self.invariant.0 (ap option_copied (sym c.in-Some.is) ∙ c.get.ensures.value) in
    IfOk-weaker c.only_lots.result _ _ (λ inventory e. ap (λ (stock : Stock). stock.held) e
    ∙ only-with_lots c.args.self.now.held c.args.commodity.now c.in-Some.holding.now.lots
    (lots ∙ ap (λ o. units_in (lots_at (option_copied o))) c.in-Some.is) is.sorted is.nonzero)
    c.only_lots.ensures.lots

pub returns-in-Some-clause-openings : goal.returns-in-Some-clause-openings
returns-in-Some-clause-openings c =
    let is = holding_seen c.self.inside.held.entries c.args.commodity.now c.in-Some.holding.now c.self.invariant.0 (ap option_copied (sym c.in-Some.is) ∙ c.get.ensures.value) in
    IfOk-weaker c.only_lots.result _ _ (λ inventory e lot. ap (λ (stock : Stock). opened_at stock c.args.commodity.now lot) e
    ∙ numbers-with_lots c.args.commodity.now c.in-Some.holding.now.lots is.sorted is.nonzero lot
    ∙ sym (opening_seen c.self.inside.held.entries c.args.self.now c.args.commodity.now lot (option_copied c.get.result) c.self.invariant.0 c.self.view_is c.get.ensures.value
    ∙ ap (λ o. opening_of (option_and_then (λ (holding : Holding). held_at holding (Some lot)) (option_copied o))) c.in-Some.is))
    c.only_lots.ensures.lots

pub returns-in-Some-clause-memory : goal.returns-in-Some-clause-memory
returns-in-Some-clause-memory c =
    let lots = lots_seen c.self.inside.held.entries c.args.self.now c.args.commodity.now (option_copied c.get.result) c.self.invariant.0 c.self.view_is c.get.ensures.value in
    on_err-then c.only_lots.result
    (λ some none. some (none_in_units c.in-Some.holding.now.lots (sym (lots ∙ ap (λ o. units_in (lots_at (option_copied o))) c.in-Some.is) ∙ none)))
    c.only_lots.ensures.memory

pub returns-in-None-clause-lots : goal.returns-in-None-clause-lots
unfolding IsStrictlySortedBy
returns-in-None-clause-lots c =
    let lots = lots_seen c.self.inside.held.entries c.args.self.now c.args.commodity.now (option_copied c.get.result) c.self.invariant.0 c.self.view_is c.get.ensures.value in
    ap (λ (stock : Stock). stock.held) c.new.ensures
    ∙ only-with_lots c.args.self.now.held c.args.commodity.now [] (lots ∙ ap (λ o. units_in (lots_at (option_copied o))) c.in-None.is) tt (λ key. refl)

pub returns-in-None-clause-openings : goal.returns-in-None-clause-openings
unfolding IsStrictlySortedBy
returns-in-None-clause-openings c = λ lot.
    ap (λ (stock : Stock). opened_at stock c.args.commodity.now lot) c.new.ensures
    ∙ numbers-with_lots c.args.commodity.now [] tt (λ key. refl) lot
    ∙ sym (opening_seen c.self.inside.held.entries c.args.self.now c.args.commodity.now lot (option_copied c.get.result) c.self.invariant.0 c.self.view_is c.get.ensures.value
    ∙ ap (λ o. opening_of (option_and_then (λ (holding : Holding). held_at holding (Some lot)) (option_copied o))) c.in-None.is)

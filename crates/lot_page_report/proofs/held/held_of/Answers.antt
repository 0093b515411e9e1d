-- The holdings are valued and added up one by one.
use Rattle.std.proofs.Common.{◌≡◌, ◌∙◌, rules, sym}
use Rattle.std.proofs.lemmas.List.{nil_from_length}
use Rattle.lot_page_report.proofs.HeldLemmas.{held_all, held_more, held_none, held_out}
use Rattle.lot_page_report.proofs.held.held_of.Goals as goal

pub loop-holding-init : goal.loop-holding-init
loop-holding-init c =
    let gives : c.into_iter-holding-iterator.result.rest.items ≡ c.args.holdings.items = search rules in
    held_none c.args.prices.now c.args.holdings.items _ _ c.new-totals.result gives c.new-rows.ensures.items c.new-totals.ensures.empty c.new-totals.ensures.ordered

pub loop-holding-preserved : goal.loop-holding-preserved
loop-holding-preserved c =
    held_more c.args.prices.now c.args.holdings.items _ _ c.in-Some.holding c.valued-row.result _ _ c.loop-holding.totals c.add_lot.new.totals
    c.loop-holding.invariant c.in-Some.ensures.steps.0 c.valued-row.ensures c.in_ok-push.ensures.items c.in_ok-add_lot.ensures.adds
    c.in_ok-add_lot.ensures.ordered

pub returns-in_err-add_lot-clause-range : goal.returns-in_err-add_lot-clause-range
returns-in_err-add_lot-clause-range c = λ is.
    held_out c.args.prices.now c.args.holdings.items _ _ c.in-Some.holding c.valued-row.result _ c.loop-holding.totals c.loop-holding.invariant
    c.in-Some.ensures.steps.0 c.valued-row.ensures (c.in_err-add_lot.ensures.range (search rules))

pub returns-clause-held : goal.returns-clause-held
returns-clause-held c =
    held_all c.args.prices.now c.args.holdings.items _ _
    (nil_from_length _ (sym c.loop-holding.holding-iterator.rest.ok.0 ∙ c.in-None.ensures.steps.0)) c.loop-holding.invariant

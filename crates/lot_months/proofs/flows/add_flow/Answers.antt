-- The flow of one month of one pair is the only one that changes.
use Rattle.std.proofs.Common.{◌≡◌, Some, None, sym, ap, ◌∙◌, rules}
use Rattle.std.specs.BTreeMap.{get}
use Rattle.std.specs.Option.{option_copied_mut}
use Rattle.std.proofs.lemmas.Result.{on_ok_weaker}
use Rattle.lot_months.specs.Lots.{pair_cmp}
use Rattle.lot_months.proofs.FlowLemmas.{AddsMonth, flow_set, found_some, months_new, sets_after}
use Rattle.lot_months.proofs.flows.add_flow.Goals as goal

pub returns-in-Some-clause-adds : goal.returns-in-Some-clause-adds
returns-in-Some-clause-adds c =
    let old = c.args.pairs.now in
    let was = c.in-Some.months.now in
    let at : Some was ≡ get pair_cmp old c.args.pair = sym (ap option_copied_mut c.in-Some.is) ∙ c.get_mut.ensures.value in
    let writes = (c.get_mut.follows.holds c.add_in_month.new.months).3 (found_some _ was at) in
    on_ok_weaker {P = AddsMonth (Some was) c.add_in_month.new.months c.args.at c.args.flow} c.add_in_month.result
    (λ adds. flow_set old (c.get_mut.follows.lender c.add_in_month.new.months) c.args.pair c.args.at c.args.flow c.add_in_month.new.months (Some was) at
    adds writes.0)
    c.add_in_month.ensures.adds

pub returns-in_ok-insert-in-None-clause-adds : goal.returns-in_ok-insert-in-None-clause-adds
returns-in_ok-insert-in-None-clause-adds c =
    let old = c.args.pairs.now in
    let months = c.add_in_month-in-None.new.months in
    let at : None ≡ get pair_cmp old c.args.pair = search rules in
    flow_set old c.insert.new.self c.args.pair c.args.at c.args.flow months None at
    (months_new c.new-months.result months c.args.at c.args.flow c.new-months.ensures.empty c.in_ok-add_in_month-in-None.ensures.adds)
    (sets_after old c.get_mut.follows.lender-at-none c.insert.new.self c.args.pair months c.get_mut.follows.holds-at-none
    c.in_ok-insert-in-None.ensures.updates.0)

use Rattle.std.proofs.Common.{◌≡◌, Some, refl, rules}
use Rattle.std.proofs.lemmas.Result.{on_ok_weaker}
use Rattle.lot_months.specs.Range.{place_in}
use Rattle.lot_months.specs.declared.flows.MonthFlows.{MonthFlows}
use Rattle.lot_months.proofs.FlowLemmas.{AddsFlow, flow_is, has_more, too_much}
use Rattle.lot_months.proofs.flows.MonthFlows.add.Goals as goal

pub returns-clause-adds : goal.returns-clause-adds
returns-clause-adds c =
    let old = c.args.self.now in
    let leg = c.args.leg.now in
    let lot = c.in-Some.lot in
    let new : MonthFlows = record { alloc = old.alloc; range = old.range; pairs = c.add_flow.new.pairs } in
    let of : leg.lot ≡ Some lot = search rules in
    let falls : place_in old.range leg.day ≡ Some c.in-Some-place.at = search rules in
    on_ok_weaker {P = AddsFlow old.pairs new.pairs (leg.commodity, lot.currency) c.in-Some-place.at c.flow_of-flow.result} c.add_flow.result
    (λ adds range legs has. has_more range legs leg old new lot c.in-Some-place.at c.flow_of-flow.result refl of falls
    (flow_is c.flow_of-flow.result leg lot of c.flow_of-flow.ensures.units c.flow_of-flow.ensures.cost) adds has)
    (rw (c.in_ok-copy.ensures, c.in_ok-copy-2.ensures) at c.add_flow.ensures.adds)

pub returns-clause-range : goal.returns-clause-range
returns-clause-range c is range legs has =
    let old = c.args.self.now in
    let leg = c.args.leg.now in
    let lot = c.in-Some.lot in
    let of : leg.lot ≡ Some lot = search rules in
    let falls : place_in old.range leg.day ≡ Some c.in-Some-place.at = search rules in
    too_much range legs leg old lot c.in-Some-place.at c.flow_of-flow.result of falls
    (flow_is c.flow_of-flow.result leg lot of c.flow_of-flow.ensures.units c.flow_of-flow.ensures.cost)
    (rw (c.in_ok-copy.ensures, c.in_ok-copy-2.ensures) at (c.add_flow.ensures.range is)) has

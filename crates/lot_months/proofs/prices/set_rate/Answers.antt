-- The rate of one month of one pair is the only one that changes.
use Rattle.std.proofs.Common.{◌≡◌, Some, None, sym, ap, ◌∙◌, rules}
use Rattle.std.specs.BTreeMap.{get}
use Rattle.std.specs.Option.{option_copied_mut}
use Rattle.lot_months.specs.Lots.{pair_cmp}
use Rattle.lot_months.proofs.FlowLemmas.{found_some, sets_after}
use Rattle.lot_months.proofs.PriceLemmas.{rate_set, rates_new}
use Rattle.lot_months.proofs.prices.set_rate.Goals as goal

pub returns-in_ok-insert-in-Some-clause-sets : goal.returns-in_ok-insert-in-Some-clause-sets
returns-in_ok-insert-in-Some-clause-sets c =
    let old = c.args.pairs.now in
    let was = c.in-Some.rates.now in
    let at : Some was ≡ get pair_cmp old c.args.pair = sym (ap option_copied_mut c.in-Some.is) ∙ c.get_mut.ensures.value in
    let writes = (c.get_mut.follows.holds c.insert.new.self).3 (found_some _ was at) in
    rate_set old (c.get_mut.follows.lender c.insert.new.self) c.args.pair c.args.at c.args.rate c.insert.new.self (Some was) at
    c.in_ok-insert-in-Some.ensures.updates.0 writes.0

pub returns-in_ok-insert-in-None-2-clause-sets : goal.returns-in_ok-insert-in-None-2-clause-sets
returns-in_ok-insert-in-None-2-clause-sets c =
    let old = c.args.pairs.now in
    let rates = c.insert-in-None.new.self in
    let at : None ≡ get pair_cmp old c.args.pair = search rules in
    rate_set old c.insert-in-None-2.new.self c.args.pair c.args.at c.args.rate rates None at
    (rates_new c.new-rates.result rates c.args.at c.args.rate c.new-rates.ensures.empty c.in_ok-insert-in-None.ensures.updates.0)
    (sets_after old c.get_mut.follows.lender-at-none c.insert-in-None-2.new.self c.args.pair rates c.get_mut.follows.holds-at-none
    c.in_ok-insert-in-None-2.ensures.updates.0)

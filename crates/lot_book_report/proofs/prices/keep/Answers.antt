-- The rate of the pair is the only one that changes.
use Rattle.std.proofs.Common.{◌≡◌, Some, None, refl, sym, ap, ◌∙◌, rules}
use Rattle.std.specs.BTreeMap.{get}
use Rattle.std.specs.Option.{option_copied_mut}
use Rattle.lot_base.specs.Text.{text_cmp}
use Rattle.lot_view.proofs.ViewLemmas.{found-some, sets-inserted}
use Rattle.lot_book_report.proofs.PriceLemmas.{quotes_new, rate_set}
use Rattle.lot_book_report.proofs.prices.keep.Goals as goal

pub returns-in_ok-insert-in-Some : goal.returns-in_ok-insert-in-Some
returns-in_ok-insert-in-Some c =
    let old = c.args.rates.now in
    let was = c.in-Some.quotes.now in
    let at : Some was ≡ get text_cmp old c.args.price.base = sym (ap option_copied_mut c.in-Some.is) ∙ c.get_mut.ensures.value in
    let writes = (c.get_mut.follows.holds c.insert.new.self).3 (found-some _ was at) in
    rate_set old (c.get_mut.follows.lender c.insert.new.self) c.args.price.base c.args.price.quote c.args.price.rate c.insert.new.self (Some was) at
    c.in_ok-insert-in-Some.ensures.updates.0 writes.0

pub returns-in_ok-insert-in-None-2 : goal.returns-in_ok-insert-in-None-2
returns-in_ok-insert-in-None-2 c =
    let old = c.args.rates.now in
    let quotes = c.insert-in-None.new.self in
    let at : None ≡ get text_cmp old c.args.price.base = search rules in
    let changes = sets-inserted old c.get_mut.follows.lender-at-none c.insert-in-None-2.new.self c.args.price.base c.args.price.base quotes
    refl c.get_mut.follows.holds-at-none c.in_ok-insert-in-None-2.ensures.updates.0 in
    rate_set old c.insert-in-None-2.new.self c.args.price.base c.args.price.quote c.args.price.rate quotes None at
    (quotes_new c.new-quotes.result quotes c.args.price.quote c.args.price.rate c.new-quotes.ensures.empty c.in_ok-insert-in-None.ensures.updates.0) changes

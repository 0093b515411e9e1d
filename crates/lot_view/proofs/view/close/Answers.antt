-- The account is closed, and every other stands as before.
use Rattle.std.proofs.Common.{◌≡◌, Some, rules, sym, ap, ◌∙◌}
use Rattle.std.specs.BTreeMap.{get}
use Rattle.std.specs.Option.{option_copied_mut, option_or}
use Rattle.lot_base.specs.Text.{text_cmp}
use Rattle.lot_book.specs.declared.standing.Standing.{Standing}
use Rattle.lot_view.proofs.ViewLemmas.{closed_set, found-some}
use Rattle.lot_view.proofs.view.close.Goals as goal

pub returns-in-Some : goal.returns-in-Some
returns-in-Some c =
    let old = c.args.standings.now in
    let was = c.in-Some.standing.now in
    let day = c.args.closing.now.day in
    let now : Standing = record was { closed = c.or-standing.result } in
    let at : Some was ≡ get text_cmp old c.args.closing.now.account =
    sym (ap option_copied_mut c.in-Some.is) ∙ c.get_mut.ensures.value in
    let writes = (c.get_mut.follows.holds now).3 (found-some _ was at) in
    let closed : c.or-standing.result ≡ option_or was.closed (Some day) = search rules in
    closed_set old (c.get_mut.follows.lender now) c.args.closing.now.account day was now at
    (λ i. record was { closed = closed i }) writes.0

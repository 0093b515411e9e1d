-- The inventory of the account is the only one that changes.
use Rattle.std.proofs.Common.{◌≡◌, Some, None, sym, ap, ◌∙◌, rules, option_copied}
use Rattle.std.specs.BTreeMap.{get}
use Rattle.std.specs.Option.{option_copied_mut}
use Rattle.lot_base.specs.Text.{text_cmp}
use Rattle.lot_inv.specs.Inventory.{Position, with_lot}
use Rattle.lot_inv.proofs.SetLemmas.{on_err}
use Rattle.lot_view.proofs.ViewLemmas.{found-some, sets-inserted, stock_kept, stock_set}
use Rattle.lot_view.proofs.view.set_units.Goals as goal

pub returns-in_err-set-in-Some-clause-err : goal.returns-in_err-set-in-Some-clause-err
returns-in_err-set-in-Some-clause-err c =
    let was = c.in-Some.inventory.now in
    let now = c.set.new.self in
    let at : Some was ≡ get text_cmp c.args.held.now c.args.account.now =
    sym (ap option_copied_mut c.in-Some.is) ∙ c.get_mut.ensures.value in
    let writes = (c.get_mut.follows.holds now).3 (found-some _ was at) in
    on_err c.from_residual.result
    (stock_kept c.args.held.now (c.get_mut.follows.lender now) c.args.account.now now
    (Some was) at c.in_err-set-in-Some.ensures.err writes.0)

pub returns-in_ok-set-in-Some-clause-ok : goal.returns-in_ok-set-in-Some-clause-ok
returns-in_ok-set-in-Some-clause-ok c =
    let was = c.in-Some.inventory.now in
    let now = c.set.new.self in
    let position : Position = (c.args.commodity.now, option_copied c.args.lot) in
    let at : Some was ≡ get text_cmp c.args.held.now c.args.account.now =
    sym (ap option_copied_mut c.in-Some.is) ∙ c.get_mut.ensures.value in
    let writes = (c.get_mut.follows.holds now).3 (found-some _ was at) in
    stock_set c.args.held.now (c.get_mut.follows.lender now) c.args.account.now position c.args.units c.args.opening now
    (Some was) at c.in_ok-set-in-Some.ensures.ok writes.0

pub returns-in_ok-insert-in-None-clause-ok : goal.returns-in_ok-insert-in-None-clause-ok
returns-in_ok-insert-in-None-clause-ok c =
    let old = c.args.held.now in
    let now = c.set-in-None.new.self in
    let position : Position = (c.args.commodity.now, option_copied c.args.lot) in
    let at : None ≡ get text_cmp old c.args.account.now = search rules in
    let changes = sets-inserted old c.get_mut.follows.lender-at-none c.insert.new.self
    c.args.account.now c.in_ok-copy-in-None.field-0 now
    c.in_ok-copy-in-None.ensures c.get_mut.follows.holds-at-none c.in_ok-insert-in-None.ensures.updates.0 in
    stock_set old c.insert.new.self c.args.account.now position c.args.units c.args.opening now None at
    (c.in_ok-set-in-None.ensures.ok ∙ ap (λ stock. with_lot stock position c.args.units c.args.opening) c.new-inventory.ensures) changes

-- The days of the account are the only ones that change.
use Rattle.std.proofs.Common.{◌≡◌, Some, None, refl, sym, ap, ◌∙◌, rules}
use Rattle.std.specs.BTreeMap.{get}
use Rattle.std.specs.Option.{option_copied_mut}
use Rattle.lot_base.specs.Text.{text_cmp}
use Rattle.lot_inv.proofs.SetLemmas.{on_err}
use Rattle.lot_view.proofs.ViewLemmas.{day_kept, day_set, days_kept, days_new, days_set, found-some, sets-inserted}
use Rattle.lot_view.proofs.view.set_day.Goals as goal

pub returns-in_err-copy-in-Some-clause-err : goal.returns-in_err-copy-in-Some-clause-err
returns-in_err-copy-in-Some-clause-err c =
    let old = c.args.heads.now in
    let days = c.in-Some.days.now in
    let at : Some days ≡ get text_cmp old c.args.account.now =
    sym (ap option_copied_mut c.in-Some.is) ∙ c.get_mut.ensures.value in
    let writes = (c.get_mut.follows.holds days).3 (found-some _ days at) in
    on_err c.from_residual.result
    (day_kept old (c.get_mut.follows.lender days) c.args.account.now days (Some days) at (λ what. refl) writes.0)

pub returns-in_err-insert-in-Some-clause-err : goal.returns-in_err-insert-in-Some-clause-err
returns-in_err-insert-in-Some-clause-err c =
    let old = c.args.heads.now in
    let was = c.in-Some.days.now in
    let days = c.insert.new.self in
    let at : Some was ≡ get text_cmp old c.args.account.now = sym (ap option_copied_mut c.in-Some.is) ∙ c.get_mut.ensures.value in
    let writes = (c.get_mut.follows.holds days).3 (found-some _ was at) in
    let same = c.in_err-insert-in-Some.ensures.err in
    on_err c.from_residual-in_err-insert-in-Some.result
    (day_kept old (c.get_mut.follows.lender days) c.args.account.now days (Some was) at (days_kept was days same) writes.0)

pub returns-in_ok-insert-in-Some-clause-ok : goal.returns-in_ok-insert-in-Some-clause-ok
returns-in_ok-insert-in-Some-clause-ok c =
    let old = c.args.heads.now in
    let was = c.in-Some.days.now in
    let days = c.insert.new.self in
    let at : Some was ≡ get text_cmp old c.args.account.now = sym (ap option_copied_mut c.in-Some.is) ∙ c.get_mut.ensures.value in
    let writes = (c.get_mut.follows.holds days).3 (found-some _ was at) in
    day_set old (c.get_mut.follows.lender days) c.args.account.now c.args.commodity.now c.args.day days (Some was) at
    (days_set was days c.args.commodity.now c.in_ok-copy-in-Some.field-0 c.args.day
    c.in_ok-copy-in-Some.ensures c.in_ok-insert-in-Some.ensures.updates.0) writes.0

pub returns-in_ok-insert-in-None-2-clause-ok : goal.returns-in_ok-insert-in-None-2-clause-ok
returns-in_ok-insert-in-None-2-clause-ok c =
    let old = c.args.heads.now in
    let days = c.insert-in-None.new.self in
    let at : None ≡ get text_cmp old c.args.account.now = search rules in
    let changes = sets-inserted old c.get_mut.follows.lender-at-none c.insert-in-None-2.new.self
    c.args.account.now c.in_ok-copy-in-None-2.field-0 days
    c.in_ok-copy-in-None-2.ensures c.get_mut.follows.holds-at-none c.in_ok-insert-in-None-2.ensures.updates.0 in
    day_set old c.insert-in-None-2.new.self c.args.account.now c.args.commodity.now c.args.day days None at
    (days_new c.new-days.result days c.args.commodity.now c.in_ok-copy-in-None.field-0 c.args.day
    c.new-days.ensures.empty c.in_ok-copy-in-None.ensures c.in_ok-insert-in-None.ensures.updates.0) changes

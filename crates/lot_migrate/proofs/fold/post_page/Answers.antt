use Rattle.std.proofs.Common.{◌≡◌, ◌∙◌, ◌+◌, ◌++◌, ◌∷◌, [], Err, List, ap, drop, subst, sym, take}
use Rattle.std.proofs.lemmas.List.{append_assoc, take-append-drop, take_all}
use Rattle.std.proofs.lemmas.Result.{err_from_is_err_and}
use Rattle.sqlite.specs.Order.{Row}
use Rattle.lot_table.specs.declared.fault.Fault.TheVariants.{Damaged}
use Rattle.lot_write.proofs.CallLemmas.{taken}
use Rattle.lot_migrate.proofs.FoldLemmas.{Posts}
use Rattle.lot_migrate.proofs.PostLemmas.{posts_damaged, posts_more, posts_none}
use Rattle.lot_migrate.proofs.fold.post_page.Goals as goal

pub rows-init : goal.rows-init
rows-init c = posts_none c.args.lots.now

pub rows-preserved : goal.rows-preserved
rows-preserved c =
    let page = c.args.page.now in
    let n = c.rows.row-index in
    let row = c.row-item.result in
    subst (λ (done : List Row). Posts done c.args.lots.now c.post_row.new.lots)
    (sym (taken page n row _ c.rows-test.true c.row-item.is))
    (posts_more (take n page) row c.args.lots.now c.rows.lots c.post_row.new.lots c.rows.invariant c.in_ok-post_row.ensures.posts)

pub returns-in_err-post_row-clause-damaged : goal.returns-in_err-post_row-clause-damaged
returns-in_err-post_row-clause-damaged c is before keeps rows legs same =
    let page = c.args.page.now in
    let n = c.rows.row-index in
    let row = c.row-item.result in
    let rest = drop (n + 1) page in
    let fault = err_from_is_err_and c.from_residual.result c.from_residual.ensures.1 in
    let both = sym fault.1 ∙ is in
    let told : fault.0 ≡ Damaged = cc in
    let split : take n page ++ row ∷ rest ≡ page =
    sym (append_assoc (take n page) (row ∷ []) rest)
    ∙ ap (λ l. l ++ rest) (sym (taken page n row _ c.rows-test.true c.row-item.is))
    ∙ take-append-drop (n + 1) page in
    posts_damaged (take n page) rest row c.args.lots.now c.rows.lots c.rows.invariant
    (c.in_err-post_row.ensures.damaged (ap Err (sym fault.2 ∙ told))) before keeps rows legs (split ∙ same)

pub returns-clause-posts : goal.returns-clause-posts
returns-clause-posts c =
    subst (λ (done : List Row). Posts done c.args.lots.now c.rows.lots)
    (take_all c.rows.row-index c.args.page.now c.rows-test.false) c.rows.invariant

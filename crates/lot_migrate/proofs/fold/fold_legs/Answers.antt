use Rattle.std.proofs.Common.{◌∙◌, Err, ap, map, refl}
use Rattle.std.proofs.lemmas.Result.{err_from_is_err_and}
use Rattle.sqlite.specs.Held.{state}
use Rattle.lot_migrate.specs.Rows.{leg_of}
use Rattle.lot_migrate.proofs.FoldLemmas.{folds_more, folds_none, folds_stops, folds_unread}
use Rattle.lot_migrate.proofs.fold.fold_legs.Goals as goal

pub pages-init : goal.pages-init
pages-init g c = (refl, folds_none (state g.S.Store c.args.tx.now.conn.now) c.new-lots.result c.new-lots.ensures)

pub pages-preserved : goal.pages-preserved
pages-preserved g c =
    let last = rw c.in-Some.is at c.in_ok-row.ensures.ok in (
      c.legs_behind.ensures.same_reference ∙ c.pages.invariant.0,
      folds_more (state g.S.Store c.args.tx.now.conn.now) (state g.S.Store c.pages.tx.conn.now)
          (state g.S.Store c.legs_behind.new.conn.conn.now) c.pages.last c.pages.lots c.pages.invariant.1 c.post_page.new.lots
          c.in_ok-page.page c.in-Some.row c.in_ok-page.ensures.pages (rw c.deref.ensures.value at last)
          (rw c.deref-in-pages.ensures.value at c.in_ok-post_page.ensures.posts),
    )

pub returns-in_err-page-clause-same_reference : goal.returns-in_err-page-clause-same_reference
returns-in_err-page-clause-same_reference g c = c.legs_behind.ensures.same_reference ∙ c.pages.invariant.0

pub returns-in_err-page-clause-reads : goal.returns-in_err-page-clause-reads
returns-in_err-page-clause-reads g c =
    let fault = err_from_is_err_and c.from_residual.result c.from_residual.ensures.1 in
    rw (fault.1, fault.2)
    (folds_unread (state g.S.Store c.args.tx.now.conn.now) (state g.S.Store c.pages.tx.conn.now)
    (state g.S.Store c.legs_behind.new.conn.conn.now) c.pages.last c.pages.lots c.pages.invariant.1 c.in_err-page.field-0.0
    c.in_err-page.ensures.pages)

pub returns-in_err-row-clause-reads : goal.returns-in_err-row-clause-reads
returns-in_err-row-clause-reads g c =
    let fault = err_from_is_err_and c.from_residual-in_err-row.result c.from_residual-in_err-row.ensures.1 in
    let told = c.in_err-row.ensures in
    rw (fault.1, fault.2)
    (folds_stops (state g.S.Store c.args.tx.now.conn.now) (state g.S.Store c.pages.tx.conn.now)
    (state g.S.Store c.legs_behind.new.conn.conn.now) c.pages.last c.pages.lots c.pages.invariant.1 c.in_ok-page.page
    c.in_ok-page.ensures.pages c.in_err-row.field-0.0 (λ is. told.no_device (ap Err is))
    (λ is more legs same _. told.damaged (ap Err is) more legs.good (c.deref.ensures.value ∙ same)))

pub returns-in_err-post_page-clause-reads : goal.returns-in_err-post_page-clause-reads
returns-in_err-post_page-clause-reads g c =
    let fault = err_from_is_err_and c.from_residual-in_err-post_page.result c.from_residual-in_err-post_page.ensures.1 in
    let told = c.in_err-post_page.ensures in
    let folds = c.pages.invariant.1 in
    rw (fault.1, fault.2)
    (folds_stops (state g.S.Store c.args.tx.now.conn.now) (state g.S.Store c.pages.tx.conn.now)
    (state g.S.Store c.legs_behind.new.conn.conn.now) c.pages.last c.pages.lots folds c.in_ok-page.page
    c.in_ok-page.ensures.pages c.in_err-post_page.field-0.0 (λ is. told.no_device (ap Err is))
    (λ is more legs same. told.damaged (ap Err is) (map leg_of folds.rows) folds.keeps more legs (c.deref-in-pages.ensures.value ∙ same)))

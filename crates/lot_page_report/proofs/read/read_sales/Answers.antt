-- The sales of the range are added up.
use Rattle.std.proofs.Common.{map, refl, rules, subst}
use Rattle.std.proofs.lemmas.Result.{err_from_is_err_and}
use Rattle.sqlite.specs.Held.{state}
use Rattle.lot_book_report.specs.Gains.{sale_in}
use Rattle.lot_stored.specs.StandFor.{Stands}
use Rattle.lot_walk.specs.Gains.{Range}
use Rattle.lot_page_report.specs.Read.{HasSales, all_fit}
use Rattle.lot_page_report.proofs.ReadLemmas.{gathered_all, gathered_none, gathers_unfit, gathers_unwritten}
use Rattle.lot_page_report.proofs.read.read_sales.Goals as goal

pub gather-requires-clause-begun : goal.gather-requires-clause-begun
gather-requires-clause-begun g c = λ entries stands.
    ((c.args.first, c.args.last), c.gains-walk.ensures.begun entries (subst (λ book. Stands (state g.S.Store book.conn) entries) c.gains-walk.ensures.same stands))

pub returns-in_err-gather : goal.returns-in_err-gather
returns-in_err-gather g c =
    let fault = err_from_is_err_and c.from_residual.result c.from_residual.ensures.1 in
    let (sales, gathers) = c.in_err-gather.ensures.some tt c.new-tally.ensures in
    rw (fault.1, fault.2)
    (gathered_none g.S.Store _ _ _ _ c.args.book.now c.gains-walk.result.book.now c.gather.new.walk.book.now _ c.gains-walk.ensures.same (search rules)
    c.in_err-gather.field-0.0 c.in_err-gather.ensures.reads (gathers_unwritten (all_fit tt) (HasSales tt) sales c.gather.new.tally c.in_err-gather.field-0.0 gathers)
    (λ clean entries stands is.
    let (all, are, ended) = c.in_err-gather.ensures.gathers tt c.new-tally.ensures sale_in (λ sold. refl) clean (c.args.first, c.args.last) entries (c.gains-walk.ensures.begun entries stands) in
    (all, are, gathers_unfit (all_fit tt) (HasSales tt) (map sale_in all) c.gather.new.tally c.in_err-gather.field-0.0 ended is)))

pub returns : goal.returns
returns g c =
    let range : Range = (c.args.first, c.args.last) in
    gathered_all g.S.Store _ _ _ _ c.args.book.now c.gains-walk.result.book.now c.gather.new.walk.book.now _ c.gains-walk.ensures.same (search rules)
    _ c.gather.new.tally c.in_ok-gather.ensures.reads
    (λ clean entries stands.
    let (all, are, (fit, taken)) = c.in_ok-gather.ensures.gathers tt c.new-tally.ensures sale_in (λ sold. refl) clean range entries (c.gains-walk.ensures.begun entries stands) in
    (all, are, taken))
    (λ clean tables has.
    let (all, are, good, (fit, taken)) = c.in_ok-gather.ensures.rows tt c.new-tally.ensures sale_in (λ sold. refl) clean range tables (c.gains-walk.ensures.rows tables has) in
    (all, are, taken))
    tt

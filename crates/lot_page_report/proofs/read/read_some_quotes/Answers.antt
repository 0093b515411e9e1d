-- The prices are taken one by one.
use Rattle.std.proofs.Common.{List, refl, rules, subst}
use Rattle.std.specs.Prelude.{true}
use Rattle.std.proofs.lemmas.List.{map-id}
use Rattle.std.proofs.lemmas.Result.{err_from_is_err_and}
use Rattle.sqlite.specs.Held.{state}
use Rattle.lot_months.specs.Prices.{HasPrices}
use Rattle.lot_rows.specs.declared.price.PriceRow.{PriceRow}
use Rattle.lot_stored.specs.StandFor.{Stands}
use Rattle.lot_page_report.proofs.QuoteLemmas.{begun_quotes, begun_rows}
use Rattle.lot_page_report.specs.Read.{HasQuotes}
use Rattle.lot_page_report.proofs.ReadLemmas.{gathered_all, gathered_none, gathers_unfit, gathers_unwritten, never_unfit}
use Rattle.lot_page_report.proofs.read.read_some_quotes.Goals as goal

pub gather-requires-clause-begun : goal.gather-requires-clause-begun
gather-requires-clause-begun g c = λ entries stands. (
  tt,
  begun_quotes g.S.Store c.walk_from-walk.result c.new-2.result c.args.book.now c.walk_from-walk.ensures.same c.walk_from-walk.ensures.going
      c.walk_from-walk.ensures.place c.new-2.ensures.begun entries
      (subst (λ book. Stands (state g.S.Store book.conn) entries) c.walk_from-walk.ensures.same stands),
)

pub returns-in_err-gather : goal.returns-in_err-gather
returns-in_err-gather g c =
    let fault = err_from_is_err_and c.from_residual.result c.from_residual.ensures.1 in
    let (quotes, gathers) = c.in_err-gather.ensures.some c.args.range c.new.ensures in
    rw (fault.1, fault.2)
    (gathered_none g.S.Store _ _ _ _ c.args.book.now c.walk_from-walk.result.book.now c.gather.new.walk.book.now _ c.walk_from-walk.ensures.same (search rules)
    c.in_err-gather.field-0.0 c.in_err-gather.ensures.reads (gathers_unwritten (λ (rows : List PriceRow) (row : PriceRow). true) (HasQuotes c.args.range) quotes c.gather.new.tally c.in_err-gather.field-0.0 gathers)
    (λ clean entries stands is.
    let begun = begun_quotes g.S.Store c.walk_from-walk.result c.new-2.result c.args.book.now c.walk_from-walk.ensures.same c.walk_from-walk.ensures.going
    c.walk_from-walk.ensures.place c.new-2.ensures.begun entries stands in
    let (all, are, ended) = c.in_err-gather.ensures.gathers c.args.range c.new.ensures (λ row. row) (λ row. refl) clean tt entries begun in
    never_unfit _ (gathers_unfit (λ (rows : List PriceRow) (row : PriceRow). true) (HasQuotes c.args.range) _ c.gather.new.tally c.in_err-gather.field-0.0 ended is)))

pub returns : goal.returns
returns g c =
    let range = c.args.range in
    gathered_all g.S.Store _ _ _ _ c.args.book.now c.walk_from-walk.result.book.now c.gather.new.walk.book.now _ c.walk_from-walk.ensures.same (search rules)
    _ c.gather.new.tally.prices c.in_ok-gather.ensures.reads
    (λ clean entries stands.
    let begun = begun_quotes g.S.Store c.walk_from-walk.result c.new-2.result c.args.book.now c.walk_from-walk.ensures.same c.walk_from-walk.ensures.going
    c.walk_from-walk.ensures.place c.new-2.ensures.begun entries stands in
    let (all, are, (fit, taken)) = c.in_ok-gather.ensures.gathers range c.new.ensures (λ row. row) (λ row. refl) clean tt entries begun in
    (all, are, subst (λ (rows : List PriceRow). HasPrices range rows c.gather.new.tally.prices) (map-id all) taken))
    (λ clean tables has.
    let begun = begun_rows g.S.Store c.walk_from-walk.result c.new-2.result c.args.book.now c.walk_from-walk.ensures.same c.walk_from-walk.ensures.going
    c.walk_from-walk.ensures.place c.new-2.ensures.rows tables has in
    let (all, are, good, (fit, taken)) = c.in_ok-gather.ensures.rows range c.new.ensures (λ row. row) (λ row. refl) clean tt tables begun in
    (all, are, subst (λ (rows : List PriceRow). HasPrices range rows c.gather.new.tally.prices) (map-id all) taken))
    (let (quotes, (fit, taken)) = c.in_ok-gather.ensures.some range c.new.ensures in (quotes, taken))

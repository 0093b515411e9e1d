-- What is written of a walk is written of the book at which it began, each holding with its value.
use Rattle.std.proofs.Common.{ap, refl, rules, subst, ◌∙◌}
use Rattle.sqlite.specs.Held.{state}
use Rattle.lot_csv.specs.Holdings.{holdings_header}
use Rattle.lot_stored.specs.StandFor.{Stands}
use Rattle.lot_book_report.proofs.CsvLemmas.{all_valued_csv, some_valued_csv, valued_csv, valued_record, walked}
use Rattle.lot_book_report.proofs.ReadLemmas.{handed_holds, handed_tables}
use Rattle.lot_book_report.proofs.csv.holdings.write_holdings_csv.Goals as goal

pub write_csv-requires-clause-begun : goal.write_csv-requires-clause-begun
write_csv-requires-clause-begun g c = λ entries stands.
    (tt, c.holdings-walk.ensures.begun entries (subst (λ book. Stands (state g.S.Store book.conn) entries) c.holdings-walk.ensures.same stands))

pub returns-clause-shows : goal.returns-clause-shows
returns-clause-shows g c =
    let header = c.holdings_header.ensures ∙ ap holdings_header c.columns.ensures in
    handed_holds g.S.Store c.args.book.now c.write_csv.new.walk.book.now _ _ (search rules) (record {
      holds = λ clean entries stands.
          valued_csv c.args.prices.now _ _ c.write_csv.result entries
          (rw header at c.write_csv.ensures.shows (valued_record c.args.prices.now) (λ holding. refl) clean tt entries (c.holdings-walk.ensures.begun entries stands));
    })

pub returns-clause-lines : goal.returns-clause-lines
returns-clause-lines g c =
    let header = c.holdings_header.ensures ∙ ap holdings_header c.columns.ensures in
    some_valued_csv c.args.prices.now _ _ c.write_csv.result (rw header at c.write_csv.ensures.lines (valued_record c.args.prices.now) (λ holding. refl))

pub returns-clause-rows : goal.returns-clause-rows
returns-clause-rows g c =
    let header = c.holdings_header.ensures ∙ ap holdings_header c.columns.ensures in
    handed_tables g.S.Store c.args.book.now c.write_csv.new.walk.book.now _ _ (search rules) (record {
      holds = λ clean tables has.
          all_valued_csv c.args.prices.now _ _ c.write_csv.result tables
          (rw header at c.write_csv.ensures.rows (valued_record c.args.prices.now) (λ holding. refl) clean tt tables (c.holdings-walk.ensures.rows tables has));
    })

pub returns-clause-reads : goal.returns-clause-reads
returns-clause-reads g c =
    walked g.S.Store c.args.book.now c.holdings-walk.result.book.now c.write_csv.new.walk.book.now _ c.write_csv.result c.holdings-walk.ensures.same (search rules)
    c.write_csv.ensures.reads

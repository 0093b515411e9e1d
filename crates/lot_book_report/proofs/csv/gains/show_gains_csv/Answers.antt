-- What is written of a walk is written of the book at which it began.
use Rattle.std.proofs.Common.{refl, rules, subst}
use Rattle.sqlite.specs.Held.{state}
use Rattle.lot_stored.specs.StandFor.{Stands}
use Rattle.lot_book_report.specs.Csv.{records_of_sale}
use Rattle.lot_book_report.proofs.CsvLemmas.{all_sales, walked}
use Rattle.lot_book_report.proofs.ReadLemmas.{handed_holds, handed_tables}
use Rattle.lot_book_report.proofs.csv.gains.show_gains_csv.Goals as goal

pub write_csv-requires-clause-begun : goal.write_csv-requires-clause-begun
write_csv-requires-clause-begun g c = λ entries stands.
    ((c.args.first, c.args.last), c.gains-walk.ensures.begun entries (subst (λ book. Stands (state g.S.Store book.conn) entries) c.gains-walk.ensures.same stands))

pub returns-clause-shows : goal.returns-clause-shows
returns-clause-shows g c =
    handed_holds g.S.Store c.args.book.now c.write_csv.new.walk.book.now _ _ (search rules) (record {
      holds = λ clean entries stands.
          rw c.gains_header.ensures at c.write_csv.ensures.shows records_of_sale (λ sold. refl) clean (c.args.first, c.args.last) entries (c.gains-walk.ensures.begun entries stands);
    })

pub returns-clause-rows : goal.returns-clause-rows
returns-clause-rows g c =
    handed_tables g.S.Store c.args.book.now c.write_csv.new.walk.book.now _ _ (search rules) (record {
      holds = λ clean tables has.
          all_sales tables (c.args.first, c.args.last) _ _ c.write_csv.result
          (rw c.gains_header.ensures at c.write_csv.ensures.rows records_of_sale (λ sold. refl) clean (c.args.first, c.args.last) tables (c.gains-walk.ensures.rows tables has));
    })

pub returns-clause-reads : goal.returns-clause-reads
returns-clause-reads g c =
    walked g.S.Store c.args.book.now c.gains-walk.result.book.now c.write_csv.new.walk.book.now _ c.write_csv.result c.gains-walk.ensures.same (search rules)
    c.write_csv.ensures.reads

pub returns-clause-lines : goal.returns-clause-lines
returns-clause-lines g c = rw c.gains_header.ensures at c.write_csv.ensures.lines records_of_sale (λ sold. refl)

-- What is written of a walk is written of the book at which it began.
use Rattle.std.proofs.Common.{refl, rules, subst}
use Rattle.sqlite.specs.Held.{state}
use Rattle.lot_book_report.proofs.CsvLemmas.{walked}
use Rattle.lot_book_report.proofs.ReadLemmas.{handed_holds, handed_tables}
use Rattle.lot_stored.specs.StandFor.{Stands}
use Rattle.lot_page_report.proofs.ShowLemmas.{sale_rows_listed, sales_listed}
use Rattle.lot_page_report.proofs.show.show_sales.Goals as goal

pub write_list-requires-clause-begun : goal.write_list-requires-clause-begun
write_list-requires-clause-begun g c = λ entries stands.
    ((c.args.first, c.args.last), c.gains-walk.ensures.begun entries (subst (λ book. Stands (state g.S.Store book.conn) entries) c.gains-walk.ensures.same stands))

pub returns-clause-shows : goal.returns-clause-shows
returns-clause-shows g c =
    handed_holds g.S.Store c.args.book.now c.write_list.new.walk.book.now _ _ (search rules) (record {
      holds = λ clean entries stands.
          sales_listed (c.args.first, c.args.last) _ _ entries c.write_list.result
          (c.write_list.ensures.lists tt c.new-list.ensures (λ sold. sold) (λ sold. refl) clean (c.args.first, c.args.last) entries
          (c.gains-walk.ensures.begun entries stands));
    })

pub returns-clause-some : goal.returns-clause-some
returns-clause-some g c = c.write_list.ensures.some tt c.new-list.ensures

pub returns-clause-rows : goal.returns-clause-rows
returns-clause-rows g c =
    handed_tables g.S.Store c.args.book.now c.write_list.new.walk.book.now _ _ (search rules) (record {
      holds = λ clean tables has.
          sale_rows_listed (c.args.first, c.args.last) _ _ tables c.write_list.result
          (c.write_list.ensures.rows tt c.new-list.ensures (λ sold. sold) (λ sold. refl) clean (c.args.first, c.args.last) tables
          (c.gains-walk.ensures.rows tables has));
    })

pub returns-clause-reads : goal.returns-clause-reads
returns-clause-reads g c =
    walked g.S.Store c.args.book.now c.gains-walk.result.book.now c.write_list.new.walk.book.now _ c.write_list.result c.gains-walk.ensures.same (search rules)
    c.write_list.ensures.reads

-- What is written of a walk is written of the book at which it began.
use Rattle.std.proofs.Common.{refl, rules, subst}
use Rattle.sqlite.specs.Held.{state}
use Rattle.lot_book_report.proofs.CsvLemmas.{walked}
use Rattle.lot_book_report.proofs.ReadLemmas.{handed_holds, handed_tables}
use Rattle.lot_book_report.specs.Gains.{sale_in}
use Rattle.lot_stored.specs.StandFor.{Stands}
use Rattle.lot_sums.proofs.ShowLemmas.{all_sales}
use Rattle.lot_sums.proofs.gains.show_gains_by.Goals as goal

pub show_table-requires-clause-begun : goal.show_table-requires-clause-begun
show_table-requires-clause-begun g c = λ entries stands.
    ((c.args.first, c.args.last), c.gains-walk.ensures.begun entries (subst (λ book. Stands (state g.S.Store book.conn) entries) c.gains-walk.ensures.same stands))

pub show_table-requires-clause-fresh : goal.show_table-requires-clause-fresh
show_table-requires-clause-fresh g c = ((c.args.by.now, c.args.form), c.new-table.ensures)

pub returns-clause-shows : goal.returns-clause-shows
returns-clause-shows g c =
    handed_holds g.S.Store c.args.book.now c.show_table.new.walk.book.now _ _ (search rules) (record {
      holds = λ clean entries stands.
          c.show_table.ensures.shows (c.args.by.now, c.args.form) c.new-table.ensures sale_in (λ sold. refl) clean (c.args.first, c.args.last) entries
          (c.gains-walk.ensures.begun entries stands);
    })

pub returns-clause-some : goal.returns-clause-some
returns-clause-some g c = c.show_table.ensures.some (c.args.by.now, c.args.form) c.new-table.ensures

pub returns-clause-rows : goal.returns-clause-rows
returns-clause-rows g c =
    handed_tables g.S.Store c.args.book.now c.show_table.new.walk.book.now _ _ (search rules) (record {
      holds = λ clean tables has.
          all_sales c.args.by.now c.args.form tables (c.args.first, c.args.last) _ _ c.show_table.result
          (c.show_table.ensures.rows (c.args.by.now, c.args.form) c.new-table.ensures sale_in (λ sold. refl) clean (c.args.first, c.args.last) tables
          (c.gains-walk.ensures.rows tables has));
    })

pub returns-clause-reads : goal.returns-clause-reads
returns-clause-reads g c =
    walked g.S.Store c.args.book.now c.gains-walk.result.book.now c.show_table.new.walk.book.now _ c.show_table.result c.gains-walk.ensures.same (search rules)
    c.show_table.ensures.reads

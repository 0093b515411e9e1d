-- What is written of a walk is written of the book at which it began.
use Rattle.std.proofs.Common.{refl, rules, subst}
use Rattle.sqlite.specs.Held.{state}
use Rattle.lot_book_report.proofs.CsvLemmas.{walked}
use Rattle.lot_book_report.proofs.ReadLemmas.{handed_holds, handed_tables}
use Rattle.lot_book_report.specs.Csv.{AreGood}
use Rattle.lot_walk.specs.Journal.{HasCanonicalText, said}
use Rattle.lot_stored.specs.StandFor.{Stands}
use Rattle.lot_page_report.proofs.ShowLemmas.{entries_listed, entry_rows_listed}
use Rattle.lot_page_report.proofs.show.show_entries.Goals as goal

pub write_list-requires-clause-begun : goal.write_list-requires-clause-begun
write_list-requires-clause-begun g c = λ entries stands.
    (tt, c.journal-walk.ensures.begun entries (subst (λ book. Stands (state g.S.Store book.conn) entries) c.journal-walk.ensures.same stands))

pub returns-clause-shows : goal.returns-clause-shows
returns-clause-shows g c =
    handed_holds g.S.Store c.args.book.now c.write_list.new.walk.book.now _ _ (search rules) (record {
      holds = λ clean entries stands.
          entries_listed (c.args.first, c.args.last) _ _ entries c.write_list.result
          (c.write_list.ensures.lists (c.args.first, c.args.last) c.new-list.ensures (λ row. row) (λ row. refl) clean tt entries
          (c.journal-walk.ensures.begun entries stands));
    })

pub returns-clause-some : goal.returns-clause-some
returns-clause-some g c = c.write_list.ensures.some (c.args.first, c.args.last) c.new-list.ensures

pub returns-clause-rows : goal.returns-clause-rows
returns-clause-rows g c =
    handed_tables g.S.Store c.args.book.now c.write_list.new.walk.book.now _ _ (search rules) (record {
      holds = λ clean tables has.
          entry_rows_listed (c.args.first, c.args.last) _ _ (AreGood said HasCanonicalText) tables c.write_list.result
          (c.write_list.ensures.rows (c.args.first, c.args.last) c.new-list.ensures (λ row. row) (λ row. refl) clean tt tables
          (c.journal-walk.ensures.rows tables has));
    })

pub returns-clause-reads : goal.returns-clause-reads
returns-clause-reads g c =
    walked g.S.Store c.args.book.now c.journal-walk.result.book.now c.write_list.new.walk.book.now _ c.write_list.result c.journal-walk.ensures.same (search rules)
    c.write_list.ensures.reads

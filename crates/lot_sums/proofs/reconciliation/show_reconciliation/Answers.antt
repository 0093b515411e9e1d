-- What is written of a walk over the legs is written of the book at which it began.
use Rattle.std.proofs.Common.{refl, rules, subst}
use Rattle.sqlite.specs.Held.{state}
use Rattle.lot_book_report.proofs.CsvLemmas.{walked}
use Rattle.lot_book_report.proofs.ReadLemmas.{handed_holds, handed_tables}
use Rattle.lot_stored.specs.StandFor.{Stands}
use Rattle.lot_sums.proofs.ActivityLemmas.{same_leg}
use Rattle.lot_sums.proofs.ReconciliationLemmas.{all_differences, of_book, taken_of_book}
use Rattle.lot_sums.proofs.reconciliation.show_reconciliation.Goals as goal

pub show_table-requires-clause-begun : goal.show_table-requires-clause-begun
show_table-requires-clause-begun g c = λ entries stands.
    (tt, c.legs-walk.ensures.begun entries (subst (λ book. Stands (state g.S.Store book.conn) entries) c.legs-walk.ensures.same stands))

pub returns-clause-shows : goal.returns-clause-shows
returns-clause-shows g c = λ terms fresh.
    handed_holds g.S.Store c.args.book.now c.show_table.new.walk.book.now _ _ (search rules) (record {
      holds = λ clean entries stands.
          of_book terms entries _ _ c.show_table.result
          (c.show_table.ensures.shows terms fresh same_leg (λ leg. refl) clean tt entries (c.legs-walk.ensures.begun entries stands));
    })

pub returns-clause-keeps : goal.returns-clause-keeps
returns-clause-keeps g c = λ terms fresh.
    handed_holds g.S.Store c.args.book.now c.show_table.new.walk.book.now _ _ (search rules) (record {
      holds = λ clean entries stands.
          taken_of_book terms entries c.show_table.new.tally c.show_table.result
          (c.show_table.ensures.keeps terms fresh same_leg (λ leg. refl) clean tt entries (c.legs-walk.ensures.begun entries stands));
    })

pub returns-clause-some : goal.returns-clause-some
returns-clause-some g c = λ terms fresh. c.show_table.ensures.some terms fresh

pub returns-clause-rows : goal.returns-clause-rows
returns-clause-rows g c = λ terms fresh.
    handed_tables g.S.Store c.args.book.now c.show_table.new.walk.book.now _ _ (search rules) (record {
      holds = λ clean tables has.
          all_differences terms tables _ _ c.show_table.result
          (c.show_table.ensures.rows terms fresh same_leg (λ leg. refl) clean tt tables (c.legs-walk.ensures.rows tables has));
    })

pub returns-clause-reads : goal.returns-clause-reads
returns-clause-reads g c =
    walked g.S.Store c.args.book.now c.legs-walk.result.book.now c.show_table.new.walk.book.now _ c.show_table.result c.legs-walk.ensures.same (search rules)
    c.show_table.ensures.reads

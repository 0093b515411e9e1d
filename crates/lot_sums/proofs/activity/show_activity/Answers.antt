-- What is written of a walk over the legs is written of the book at which it began.
use Rattle.std.proofs.Common.{refl, rules, subst}
use Rattle.sqlite.specs.Held.{state}
use Rattle.lot_activity.specs.Scope.{asked_in}
use Rattle.lot_activity.specs.Table.{terms_with}
use Rattle.lot_book_report.proofs.CsvLemmas.{walked}
use Rattle.lot_book_report.proofs.ReadLemmas.{handed_holds, handed_tables}
use Rattle.lot_stored.specs.StandFor.{Stands}
use Rattle.lot_sums.proofs.ActivityLemmas.{all_activity, of_book, same_leg}
use Rattle.lot_sums.proofs.activity.show_activity.Goals as goal

pub show_table-requires-clause-begun : goal.show_table-requires-clause-begun
show_table-requires-clause-begun g c = λ entries stands.
    (tt, c.legs-walk.ensures.begun entries (subst (λ book. Stands (state g.S.Store book.conn) entries) c.legs-walk.ensures.same stands))

pub show_table-requires-clause-fresh : goal.show_table-requires-clause-fresh
show_table-requires-clause-fresh g c = (terms_with c.args.length (asked_in c.args.scope.now) c.args.form, c.new-table.ensures)

pub returns-clause-shows : goal.returns-clause-shows
returns-clause-shows g c =
    let terms = terms_with c.args.length (asked_in c.args.scope.now) c.args.form in
    handed_holds g.S.Store c.args.book.now c.show_table.new.walk.book.now _ _ (search rules) (record {
      holds = λ clean entries stands.
          of_book terms entries _ _ c.show_table.result
          (c.show_table.ensures.shows terms c.new-table.ensures same_leg (λ leg. refl) clean tt entries (c.legs-walk.ensures.begun entries stands));
    })

pub returns-clause-some : goal.returns-clause-some
returns-clause-some g c =
    c.show_table.ensures.some (terms_with c.args.length (asked_in c.args.scope.now) c.args.form) c.new-table.ensures

pub returns-clause-rows : goal.returns-clause-rows
returns-clause-rows g c =
    let terms = terms_with c.args.length (asked_in c.args.scope.now) c.args.form in
    handed_tables g.S.Store c.args.book.now c.show_table.new.walk.book.now _ _ (search rules) (record {
      holds = λ clean tables has.
          all_activity terms tables _ _ c.show_table.result
          (c.show_table.ensures.rows terms c.new-table.ensures same_leg (λ leg. refl) clean tt tables (c.legs-walk.ensures.rows tables has));
    })

pub returns-clause-reads : goal.returns-clause-reads
returns-clause-reads g c =
    walked g.S.Store c.args.book.now c.legs-walk.result.book.now c.show_table.new.walk.book.now _ c.show_table.result c.legs-walk.ensures.same (search rules)
    c.show_table.ensures.reads

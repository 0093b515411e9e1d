use Rattle.lot_rows.proofs.EntryLemmas.{greatest_selects, greatest_answers}
use Rattle.lot_rows.proofs.entry.greatest_row.Goals as goal

pub find-requires : goal.find-requires
find-requires g c = greatest_selects

pub returns-clause-answers : goal.returns-clause-answers
returns-clause-answers g c =
    greatest_answers (g.D.Queryable.shown c.args.conn.now) (g.D.Queryable.shown c.find.new.conn) c.find.result c.find.ensures.selects

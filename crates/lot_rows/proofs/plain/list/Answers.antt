use Rattle.lot_rows.proofs.PlainLemmas.{list_is, list_rows}
use Rattle.lot_rows.proofs.plain.list.Goals as goal

pub select-requires : goal.select-requires
select-requires g c = list_is.selects

pub returns-clause-lists : goal.returns-clause-lists
returns-clause-lists g c =
    list_rows (g.D.Queryable.shown c.args.conn.now) (g.D.Queryable.shown c.select.new.conn) c.select.result c.select.ensures.selects

use Rattle.lot_rows.proofs.PlainLemmas.{find_is, find_rows}
use Rattle.lot_rows.proofs.plain.find.Goals as goal

pub find-requires : goal.find-requires
find-requires g c = find_is.selects

pub returns-clause-finds : goal.returns-clause-finds
returns-clause-finds g c =
    find_rows (g.D.Queryable.shown c.args.conn.now) (g.D.Queryable.shown c.find.new.conn) c.args.account.now c.args.commodity.now c.find.result (rw (c.to_cell.ensures, c.to_cell-2.ensures) at c.find.ensures.selects)

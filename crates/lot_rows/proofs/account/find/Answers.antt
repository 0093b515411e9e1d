use Rattle.lot_rows.proofs.AccountLemmas.{find_is, find_rows}
use Rattle.lot_rows.proofs.account.find.Goals as goal

pub find-requires : goal.find-requires
find-requires g c = find_is.selects

pub returns-clause-finds : goal.returns-clause-finds
returns-clause-finds g c =
    find_rows (g.D.Queryable.shown c.args.conn.now) (g.D.Queryable.shown c.find.new.conn) c.args.name.now c.find.result (rw (c.to_cell.ensures) at c.find.ensures.selects)

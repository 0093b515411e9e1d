use Rattle.lot_rows.proofs.PlainLemmas.{account_is, account_rows}
use Rattle.lot_rows.proofs.plain.list_of.Goals as goal

pub select-requires : goal.select-requires
select-requires g c = account_is.selects

pub returns-clause-lists : goal.returns-clause-lists
returns-clause-lists g c =
    account_rows (g.D.Queryable.shown c.args.conn.now) (g.D.Queryable.shown c.select.new.conn) c.args.account.now c.select.result (rw (c.to_cell.ensures) at c.select.ensures.selects)

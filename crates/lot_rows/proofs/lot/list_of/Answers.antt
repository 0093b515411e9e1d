use Rattle.lot_rows.proofs.LotLemmas.{pair_is, pair_rows}
use Rattle.lot_rows.proofs.lot.list_of.Goals as goal

pub select-requires : goal.select-requires
select-requires g c = pair_is.selects

pub returns-clause-lists : goal.returns-clause-lists
returns-clause-lists g c =
    pair_rows (g.D.Queryable.shown c.args.conn.now) (g.D.Queryable.shown c.select.new.conn) c.args.account.now c.args.commodity.now c.select.result (rw (c.to_cell.ensures, c.to_cell-2.ensures) at c.select.ensures.selects)

use Rattle.lot_rows.proofs.LegLemmas.{posting_is, posting_rows}
use Rattle.lot_rows.proofs.leg.list_of.Goals as goal

pub select-requires : goal.select-requires
select-requires g c = posting_is.selects

pub returns-clause-lists : goal.returns-clause-lists
returns-clause-lists g c =
    posting_rows (g.D.Queryable.shown c.args.conn.now) (g.D.Queryable.shown c.select.new.conn) c.args.entry c.args.posting c.select.result (rw (c.to_cell.ensures, c.to_cell-2.ensures) at c.select.ensures.selects)

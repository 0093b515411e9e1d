use Rattle.sqlite.specs.Held.{state}
use Rattle.lot_audit.proofs.RowLemmas.{price_query, price_row}
use Rattle.lot_audit.proofs.rows.price_of.Goals as goal

pub find-requires : goal.find-requires
find-requires g c = price_query.selects

pub returns : goal.returns
returns g c = record {
  finds = price_row (state g.S.Store c.args.conn.now) (state g.S.Store c.find.new.conn) c.args.base.now c.args.quote.now c.args.day
      c.find.result (rw (c.to_cell.ensures, c.to_cell-2.ensures, c.to_cell-3.ensures) at c.find.ensures.selects);
}

use Rattle.sqlite.specs.Held.{state}
use Rattle.lot_audit.proofs.RowLemmas.{opening_at_query, opening_at_rows}
use Rattle.lot_audit.proofs.rows.openings_at.Goals as goal

pub select-requires : goal.select-requires
select-requires g c = opening_at_query.selects

pub returns : goal.returns
returns g c = record {
  lists = opening_at_rows (state g.S.Store c.args.conn.now) (state g.S.Store c.select.new.conn) c.args.account.now c.args.commodity.now
      c.args.lot.now c.select.result
      (rw (c.to_cell.ensures, c.to_cell-2.ensures, c.to_cell-3.ensures, c.to_cell-4.ensures, c.to_cell-5.ensures, c.to_cell-6.ensures) at c.select.ensures.selects);
}

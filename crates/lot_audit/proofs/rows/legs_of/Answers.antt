use Rattle.sqlite.specs.Held.{state}
use Rattle.lot_audit.proofs.RowLemmas.{leg_query, leg_rows}
use Rattle.lot_audit.proofs.rows.legs_of.Goals as goal

pub select-requires : goal.select-requires
select-requires g c = leg_query.selects

pub returns : goal.returns
returns g c = record {
  lists = leg_rows (state g.S.Store c.args.conn.now) (state g.S.Store c.select.new.conn) c.args.entry c.select.result
      (rw c.to_cell.ensures at c.select.ensures.selects);
}

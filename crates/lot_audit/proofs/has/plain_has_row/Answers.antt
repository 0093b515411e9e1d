use Rattle.sqlite.specs.Held.{state}
use Rattle.lot_rows.specs.Plain.{IsPlainRow, plain_cells}
use Rattle.lot_rows.specs.declared.plain.PlainRow.{PlainRow}
use Rattle.lot_table.specs.Rows.{has_key}
use Rattle.lot_stored.specs.Rows.{pair_key}
use Rattle.lot_audit.proofs.SeenLemmas.{good_filtered, tells_not}
use Rattle.lot_audit.proofs.has.plain_has_row.Goals as goal

pub returns-in_err-found : goal.returns-in_err-found
returns-in_err-found g c = record {
  checks = tells_not _ _ _ _ (state g.S.Store c.args.conn.now) (state g.S.Store c.find.new.conn) c.in_err-found.field-0.0
      c.from_residual.result c.from_residual.ensures.1 c.in_err-found.ensures.finds
      (λ tables of. good_filtered IsPlainRow (λ (row : PlainRow). has_key 2 (pair_key c.args.account.now c.args.commodity.now) (plain_cells row)) tables.plain of.2.good.plain);
}

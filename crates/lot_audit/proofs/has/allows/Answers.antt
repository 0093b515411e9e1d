use Rattle.sqlite.specs.Held.{state}
use Rattle.lot_rows.specs.Allowed.{IsAllowedRow, allowed_cells}
use Rattle.lot_rows.specs.declared.allowed.AllowedRow.{AllowedRow}
use Rattle.lot_stored.specs.Rows.{name_key}
use Rattle.lot_table.specs.Rows.{has_key}
use Rattle.lot_audit.proofs.SeenLemmas.{good_filtered, tells_not}
use Rattle.lot_audit.proofs.has.allows.Goals as goal

pub returns-in_err-rows : goal.returns-in_err-rows
returns-in_err-rows g c = record {
  checks = tells_not _ _ _ _ (state g.S.Store c.args.conn.now) (state g.S.Store c.list_of.new.conn) c.in_err-rows.field-0.0
      c.from_residual.result c.from_residual.ensures.1 c.in_err-rows.ensures.lists
      (λ tables of. good_filtered IsAllowedRow (λ (row : AllowedRow). has_key 1 (name_key c.args.account.now) (allowed_cells row)) tables.allowed of.2.good.allowed);
}

-- The row that is found tells it.
use Rattle.sqlite.specs.Held.{state}
use Rattle.std.specs.Prelude.{◌≡◌, IsTrue, ◌↔◌, Option, Some}
use Rattle.std.proofs.Common.{subst}
use Rattle.lot_rows.specs.Commodity.{IsCommodityRow, commodity_cells}
use Rattle.lot_rows.specs.declared.commodity.CommodityRow.{CommodityRow}
use Rattle.lot_stored.specs.Rows.{commodity_row, name_key}
use Rattle.lot_table.specs.Rows.{has_key}
use Rattle.lot_audit.proofs.SeenLemmas.{good_filtered, tells_not, tells_whether}
use Rattle.lot_audit.proofs.has.is_declared_on.Goals as goal

pub returns-in_err-found : goal.returns-in_err-found
returns-in_err-found g c = record {
  checks = tells_not _ _ _ _ (state g.S.Store c.args.conn.now) (state g.S.Store c.find.new.conn) c.in_err-found.field-0.0
      c.from_residual.result c.from_residual.ensures.1 c.in_err-found.ensures.finds
      (λ tables of. good_filtered IsCommodityRow (λ (row : CommodityRow). has_key 1 (name_key c.args.name.now) (commodity_cells row)) tables.commodity of.2.good.commodity);
}

pub returns : goal.returns
returns g c = record {
  checks = tells_whether _ _ _ _ (state g.S.Store c.args.conn.now) (state g.S.Store c.find.new.conn) c.in_ok-found.found _
      c.in_ok-found.ensures.finds (λ tables has good told. subst (λ (found : Option CommodityRow). IsTrue c.declares.result ↔ (found ≡ Some (commodity_row c.args.name.now c.args.day))) told c.declares.ensures);
}

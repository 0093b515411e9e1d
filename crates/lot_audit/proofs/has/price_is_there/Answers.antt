-- The row that is found tells it.
use Rattle.sqlite.specs.Held.{state}
use Rattle.lot_rows.specs.Price.{IsPriceRow, price_cells}
use Rattle.lot_rows.specs.declared.price.PriceRow.{PriceRow}
use Rattle.lot_stored.specs.Rows.{price_key}
use Rattle.lot_table.specs.Rows.{has_key}
use Rattle.lot_audit.proofs.SeenLemmas.{good_filtered, is_there, tells_not, tells_whether}
use Rattle.lot_audit.proofs.has.price_is_there.Goals as goal

pub returns-in_err-found : goal.returns-in_err-found
returns-in_err-found g c = record {
  checks = tells_not _ _ _ _ (state g.S.Store c.args.conn.now) (state g.S.Store c.price_of.new.conn) c.in_err-found.field-0.0
      c.from_residual.result c.from_residual.ensures.1 c.in_err-found.ensures.finds
      (λ tables of. good_filtered IsPriceRow (λ (row : PriceRow). has_key 3 (price_key c.args.base.now c.args.quote.now c.args.day) (price_cells row)) tables.price of.2.good.price);
}

pub returns : goal.returns
returns g c = record {
  checks = tells_whether _ _ _ _ (state g.S.Store c.args.conn.now) (state g.S.Store c.price_of.new.conn) c.in_ok-found.found _
      c.in_ok-found.ensures.finds (λ tables has good told. is_there c.in_ok-found.found _ c.is_some.result c.is_some.ensures told);
}

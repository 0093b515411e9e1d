-- Each fault of a later column comes where the columns before it pass.
use Rattle.std.proofs.Common.{sym, ◌∙◌, []}
use Rattle.csv.specs.Records.{fields_of}
use Rattle.lot_import.specs.Row.{HasLot, Passes, SaysCommodity, SaysFee, SaysRate, SaysUnits, at_column}
use Rattle.lot_import.specs.declared.fault.Cause.TheVariants as Causes
use Rattle.lot_import.proofs.RowLemmas.{from_currency, from_fee, from_lot, from_price, lot_of, pass, row_fault, said, stop, stop_at, symbol_passes}
use Rattle.lot_import.proofs.written.said.Goals as goal

pub returns-in_err-units : goal.returns-in_err-units
returns-in_err-units c =
    let v = c.args.version in
    let w = fields_of c.args.written.now in
    let cause = c.in_err-units.field-0.0 in
    row_fault v w cause c.from_residual-in_err-units.result c.from_residual-in_err-units.ensures.1
    (symbol_passes v w cause c.field.result.now c.field-2.result.now c.field-3.result.now c.field-4.result.now
    c.in_ok-name.name.now c.in_ok-day.day c.in_ok-action.action c.in_ok-symbol.symbol.now
    (sym c.len.ensures ∙ c.if-len-columns.false ∙ c.columns.ensures)
    c.field.ensures c.in_ok-name.ensures c.field-2.ensures c.in_ok-day.ensures c.field-3.ensures c.in_ok-action.ensures
    c.field-4.ensures c.in_ok-symbol.ensures
    (stop_at SaysUnits (Passes v w) Causes.Units from_price cause c.field-5.result.now (at_column w 4) c.field-5.ensures (λ p. p) c.in_err-units.ensures))

pub returns-in_err-price : goal.returns-in_err-price
returns-in_err-price c =
    let v = c.args.version in
    let w = fields_of c.args.written.now in
    let cause = c.in_err-price.field-0.0 in
    row_fault v w cause c.from_residual-in_err-price.result c.from_residual-in_err-price.ensures.1
    (symbol_passes v w cause c.field.result.now c.field-2.result.now c.field-3.result.now c.field-4.result.now
    c.in_ok-name.name.now c.in_ok-day.day c.in_ok-action.action c.in_ok-symbol.symbol.now
    (sym c.len.ensures ∙ c.if-len-columns.false ∙ c.columns.ensures)
    c.field.ensures c.in_ok-name.ensures c.field-2.ensures c.in_ok-day.ensures c.field-3.ensures c.in_ok-action.ensures
    c.field-4.ensures c.in_ok-symbol.ensures
    (pass (Passes v w) Causes.Units from_price cause (said SaysUnits c.field-5.result.now (at_column w 4) c.field-5.ensures c.in_ok-units.units c.in_ok-units.ensures)
    (stop_at SaysRate (Passes v w) Causes.Price from_currency cause c.field-6.result.now (at_column w 5) c.field-6.ensures (λ p. p) c.in_err-price.ensures)))

pub returns-in_err-currency : goal.returns-in_err-currency
returns-in_err-currency c =
    let v = c.args.version in
    let w = fields_of c.args.written.now in
    let cause = c.in_err-currency.field-0.0 in
    row_fault v w cause c.from_residual-in_err-currency.result c.from_residual-in_err-currency.ensures.1
    (symbol_passes v w cause c.field.result.now c.field-2.result.now c.field-3.result.now c.field-4.result.now
    c.in_ok-name.name.now c.in_ok-day.day c.in_ok-action.action c.in_ok-symbol.symbol.now
    (sym c.len.ensures ∙ c.if-len-columns.false ∙ c.columns.ensures)
    c.field.ensures c.in_ok-name.ensures c.field-2.ensures c.in_ok-day.ensures c.field-3.ensures c.in_ok-action.ensures
    c.field-4.ensures c.in_ok-symbol.ensures
    (pass (Passes v w) Causes.Units from_price cause (said SaysUnits c.field-5.result.now (at_column w 4) c.field-5.ensures c.in_ok-units.units c.in_ok-units.ensures)
    (pass (Passes v w) Causes.Price from_currency cause (said SaysRate c.field-6.result.now (at_column w 5) c.field-6.ensures c.in_ok-price.price c.in_ok-price.ensures)
    (stop_at SaysCommodity (Passes v w) Causes.Currency from_fee cause c.field-7.result.now (at_column w 6) c.field-7.ensures (λ p. p) c.in_err-currency.ensures))))

pub returns-in_err-fee : goal.returns-in_err-fee
returns-in_err-fee c =
    let v = c.args.version in
    let w = fields_of c.args.written.now in
    let cause = c.in_err-fee.field-0.0 in
    row_fault v w cause c.from_residual-in_err-fee.result c.from_residual-in_err-fee.ensures.1
    (symbol_passes v w cause c.field.result.now c.field-2.result.now c.field-3.result.now c.field-4.result.now
    c.in_ok-name.name.now c.in_ok-day.day c.in_ok-action.action c.in_ok-symbol.symbol.now
    (sym c.len.ensures ∙ c.if-len-columns.false ∙ c.columns.ensures)
    c.field.ensures c.in_ok-name.ensures c.field-2.ensures c.in_ok-day.ensures c.field-3.ensures c.in_ok-action.ensures
    c.field-4.ensures c.in_ok-symbol.ensures
    (pass (Passes v w) Causes.Units from_price cause (said SaysUnits c.field-5.result.now (at_column w 4) c.field-5.ensures c.in_ok-units.units c.in_ok-units.ensures)
    (pass (Passes v w) Causes.Price from_currency cause (said SaysRate c.field-6.result.now (at_column w 5) c.field-6.ensures c.in_ok-price.price c.in_ok-price.ensures)
    (pass (Passes v w) Causes.Currency from_fee cause (said SaysCommodity c.field-7.result.now (at_column w 6) c.field-7.ensures c.in_ok-currency.currency.now c.in_ok-currency.ensures)
    (stop_at SaysFee (Passes v w) Causes.Fee from_lot cause c.field-8.result.now (at_column w 7) c.field-8.ensures (λ p. p) c.in_err-fee.ensures)))))

pub returns-in_err-lot : goal.returns-in_err-lot
returns-in_err-lot c =
    let v = c.args.version in
    let w = fields_of c.args.written.now in
    let cause = c.in_err-lot.field-0.0 in
    row_fault v w cause c.from_residual-in_err-lot.result c.from_residual-in_err-lot.ensures.1
    (symbol_passes v w cause c.field.result.now c.field-2.result.now c.field-3.result.now c.field-4.result.now
    c.in_ok-name.name.now c.in_ok-day.day c.in_ok-action.action c.in_ok-symbol.symbol.now
    (sym c.len.ensures ∙ c.if-len-columns.false ∙ c.columns.ensures)
    c.field.ensures c.in_ok-name.ensures c.field-2.ensures c.in_ok-day.ensures c.field-3.ensures c.in_ok-action.ensures
    c.field-4.ensures c.in_ok-symbol.ensures
    (pass (Passes v w) Causes.Units from_price cause (said SaysUnits c.field-5.result.now (at_column w 4) c.field-5.ensures c.in_ok-units.units c.in_ok-units.ensures)
    (pass (Passes v w) Causes.Price from_currency cause (said SaysRate c.field-6.result.now (at_column w 5) c.field-6.ensures c.in_ok-price.price c.in_ok-price.ensures)
    (pass (Passes v w) Causes.Currency from_fee cause (said SaysCommodity c.field-7.result.now (at_column w 6) c.field-7.ensures c.in_ok-currency.currency.now c.in_ok-currency.ensures)
    (pass (Passes v w) Causes.Fee from_lot cause (said SaysFee c.field-8.result.now (at_column w 7) c.field-8.ensures c.in_ok-fee.fee c.in_ok-fee.ensures)
    (stop (λ lot. HasLot v c.in_ok-action.action w lot) (Passes v w) Causes.Lot [] cause (lot_of v w c.field-3.result.now c.in_ok-action.action c.field-3.ensures c.in_ok-action.ensures) c.in_err-lot.ensures))))))

use Rattle.std.proofs.Common.{sym}
use Rattle.lot_report.specs.Gains.{amounts_of}
use Rattle.lot_tally.specs.Lots.{sale_lots}
use Rattle.lot_tally.proofs.RowLemmas.{lots_stop, priced_in, unpriced_in}
use Rattle.lot_tally.proofs.counted.Counted.add.Goals as goal

pub returns-in_err-add_lots : goal.returns-in_err-add_lots
returns-in_err-add_lots c lots sales has =
    lots_stop lots (sale_lots c.args.by.now c.args.form c.args.sale.now) sales c.args.sale.now (Unit {0}) _ c.in_err-add_lots.field-0.0 c.from_residual.result
    (c.in_err-add_lots.ensures lots has.0) c.from_residual.ensures.1

pub returns-in-Some : goal.returns-in-Some
returns-in-Some c lots sales has =
    priced_in lots (sale_lots c.args.by.now c.args.form c.args.sale.now) sales c.args.sale.now c.in-Some.currency.now c.in-Some.gain
    (record { rows = c.add_lots.new.rows; totals = c.add.new.self }) c.add.result
    (sym (rw c.in-Some.is at c.priced.ensures)) (c.in_ok-add_lots.ensures lots has.0) (c.add.ensures (amounts_of sales) has.1)

pub returns-in-None : goal.returns-in-None
returns-in-None c lots sales has =
    unpriced_in lots (sale_lots c.args.by.now c.args.form c.args.sale.now) sales c.args.sale.now
    (record { rows = c.add_lots.new.rows; totals = c.args.self.now.totals })
    (sym (rw c.in-None.is at c.priced.ensures)) (c.in_ok-add_lots.ensures lots has.0) has.1

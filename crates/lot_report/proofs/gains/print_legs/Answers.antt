use Rattle.std.proofs.Common.{◌∙◌, Err, arith}
use Rattle.std.proofs.lemmas.Result.{err_from_is_err_and}
use Rattle.lot_report.specs.Gains.{leg_line}
use Rattle.lot_report.proofs.EachLemmas.{each_written, each_stops, item_at}
use Rattle.lot_report.proofs.GainLemmas.{legs_of_sale}
use Rattle.lot_report.proofs.gains.print_legs.Goals as goal

pub loop-lot-preserved : goal.loop-lot-preserved
loop-lot-preserved g c = (
  each_written (leg_line c.commodity-commodity.result.now) _ _ _ _ _ _ _ c.loop-lot.invariant.0
      (item_at c.legs-legs.result.now c.loop-lot.lot-index c.loop-lot-item.result (omega arith) c.loop-lot-item.is) c.in_ok-print_lot.ensures.line,
  c.in_ok-print_lot.ensures.none_failed ∙ c.loop-lot.invariant.1,
)

pub returns-in_err-print_lot-clause-lines : goal.returns-in_err-print_lot-clause-lines
returns-in_err-print_lot-clause-lines g c =
    let fault = err_from_is_err_and c.from_residual.result c.from_residual.ensures.1 in
    rw (fault.1, fault.2)
    (legs_of_sale _ _ _ _ (g.W.CountedWrite.contents c.args.writer.now) (g.W.CountedWrite.contents c.print_lot.new.writer) (Err c.in_err-print_lot.field-0.0) c.commodity-commodity.ensures c.legs-legs.ensures.value
    (each_stops (leg_line c.commodity-commodity.result.now) _ _ _ _ _ _ _ _ c.loop-lot.invariant.0
    (item_at c.legs-legs.result.now c.loop-lot.lot-index c.loop-lot-item.result (omega arith) c.loop-lot-item.is) c.in_err-print_lot.ensures.line))

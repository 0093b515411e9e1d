use Rattle.std.proofs.Common.{[], ◌∙◌, arith, refl}
use Rattle.std.proofs.KnownBytes.{Appends-nil}
use Rattle.std.proofs.lemmas.Result.{err_from_is_err_and}
use Rattle.lot_report.proofs.OutputLemmas.{called_out, failed_call, none_made, on_err, one_more, went_on}
use Rattle.lot_report.proofs.PrintLemmas.{taken_step, part_failed, part_left}
use Rattle.lot_report.proofs.line.put.Goals as goal

pub loop-made-init : goal.loop-made-init
loop-made-init g c = record {
  written = ([], refl, Appends-nil (g.W.CountedWrite.contents c.args.writer.now));
  calls = none_made (g.W.CountedWrite.calls c.args.writer.now);
  none_failed = refl;
}

pub loop-made-preserved : goal.loop-made-preserved
loop-made-preserved g c = record {
  written = taken_step _ _ _ _ _ c.write_counted.result c.in_ok-count.count c.loop-made.invariant.written c.write_counted.ensures.bytes c.in_ok-count.ensures;
  calls = one_more _ _ c.loop-made._made c.write_counted.result c.loop-made.invariant.calls c.write_counted.ensures.calls (omega (arith, c.loop-made-test.true));
  none_failed = went_on _ _ c.write_counted.result c.in_ok-count.count c.write_counted.ensures.calls c.in_ok-count.ensures ∙ c.loop-made.invariant.none_failed;
}

pub returns-in_err-count-clause-bytes : goal.returns-in_err-count-clause-bytes
returns-in_err-count-clause-bytes g c =
    let fault = err_from_is_err_and c.from_residual.result c.from_residual.ensures.1 in
    rw (fault.1, fault.2)
    (part_failed _ _ _ _ c.loop-made.rest.now c.write_counted.result c.in_err-count.field-0.0 c.if-is_empty.ensures c.loop-made.invariant.written c.write_counted.ensures.bytes c.in_err-count.ensures)

pub returns-in_err-count-clause-cause : goal.returns-in_err-count-clause-cause
returns-in_err-count-clause-cause g c =
    on_err c.from_residual.result _ (failed_call _ _ c.write_counted.result c.in_err-count.field-0.0 c.write_counted.ensures.calls c.in_err-count.ensures)

pub returns-else-is_empty-2-clause-bytes : goal.returns-else-is_empty-2-clause-bytes
returns-else-is_empty-2-clause-bytes g c = part_left _ _ _ c.loop-made.rest.now c.if-is_empty-2.ensures c.loop-made.invariant.written

pub returns-else-is_empty-2-clause-cause : goal.returns-else-is_empty-2-clause-cause
returns-else-is_empty-2-clause-cause g c =
    called_out _ c.loop-made._made c.loop-made.invariant.calls (omega (arith, c.loop-made-test.false, c.loop-made.auto._made-end))

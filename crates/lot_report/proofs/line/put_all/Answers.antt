use Rattle.std.proofs.Common.{◌∙◌, Err, arith, subst}
use Rattle.std.specs.Io.KnownBytes.{Appends}
use Rattle.std.proofs.lemmas.Result.{err_from_is_err_and}
use Rattle.lot_report.specs.Written.{WritesLine}
use Rattle.lot_report.proofs.EachLemmas.{each_written, each_fails, first_left}
use Rattle.lot_report.proofs.line.put_all.Goals as goal

pub loop-text-preserved : goal.loop-text-preserved
loop-text-preserved g c = (
  each_written _ _ _ _ _ _ _ _ c.loop-text.invariant.0 (first_left c.args.texts.now c.loop-text.text-index _ (omega arith))
      (subst (Appends (g.W.CountedWrite.contents c.loop-text.writer) (g.W.CountedWrite.contents c.put.new.writer)) c.as_bytes.ensures.value c.in_ok-put.ensures.bytes),
  c.in_ok-put.ensures.none_failed ∙ c.loop-text.invariant.1,
)

pub returns-in_err-put-clause-bytes : goal.returns-in_err-put-clause-bytes
returns-in_err-put-clause-bytes g c =
    let fault = err_from_is_err_and c.from_residual.result c.from_residual.ensures.1 in
    rw (fault.1, fault.2)
    (each_fails _ _ _ _ _ _ _ _ _ c.loop-text.invariant.0 (first_left c.args.texts.now c.loop-text.text-index _ (omega arith))
    (subst (WritesLine (g.W.CountedWrite.contents c.loop-text.writer) (g.W.CountedWrite.contents c.put.new.writer) (Err c.in_err-put.field-0.0))
    c.as_bytes.ensures.value c.in_err-put.ensures.bytes)
    c.in_err-put.ensures.fault)

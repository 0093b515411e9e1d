use Rattle.std.proofs.Common.{vec_len}
use Rattle.lot_check.proofs.AnswerLemmas.{heard, unheard}
use Rattle.lot_check.proofs.CauseLemmas.{input_is_not}
use Rattle.lot_check.proofs.batch.answer.Goals as goal

pub returns-in_err-text-clause-answers : goal.returns-in_err-text-clause-answers
returns-in_err-text-clause-answers g c =
    unheard _ (g.R.CountedRead.remaining c.args.reader.now) (g.W.CountedWrite.calls c.args.writer.now) (g.W.CountedWrite.contents c.args.writer.now) c.in_err-text.field-0.0 c.from_residual.result c.from_residual.ensures.1
    c.in_err-text.ensures.cause c.in_err-text.ensures.too_long

pub returns-clause-answers : goal.returns-clause-answers
returns-clause-answers g c =
    rw (c.take_back.ensures.calls)
    (heard _ (g.R.CountedRead.remaining c.args.reader.now) _ (g.W.CountedWrite.contents c.args.writer.now) (g.W.CountedWrite.contents c.answer_text-answered.new.writer)
    c.in_ok-text.text.items c.deref.result.now (vec_len c.in_ok-text.text) c.answer_text-answered.result c.in_ok-text.ensures.every_byte c.deref.ensures.value
    c.deref.ensures.len c.in_ok-text.ensures.calls c.answer_text-answered.ensures.reaches)

pub returns-in_err-text-clause-cause : goal.returns-in_err-text-clause-cause
returns-in_err-text-clause-cause g c = input_is_not c.from_residual.result c.in_err-text.field-0.0 _ c.from_residual.ensures.1

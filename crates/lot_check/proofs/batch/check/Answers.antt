use Rattle.lot_check.proofs.AnswerLemmas.{failed_before, outcome_of_input}
use Rattle.lot_check.proofs.batch.check.Goals as goal

pub returns-clause-answer : goal.returns-clause-answer
returns-clause-answer g c =
    outcome_of_input _ _ _ (g.W.CountedWrite.calls c.conclude-concluded.new.writer) (g.W.CountedWrite.calls c.finish.new.writer) _ _ _ _ _
    c.answer-outcome.result c.conclude-concluded.result c.finish.result c.code.result c.answer-outcome.ensures.answers
    c.conclude-concluded.ensures.concludes c.conclude-concluded.ensures.none_failed c.finish.ensures.kept c.finish.ensures.end c.finish.ensures.none_failed
    (failed_before g.W.CountedWrite.calls c.conclude-concluded.new.writer c.finish.new.writer c.conclude-concluded.result
    (c.conclude-concluded.ensures.cause c.answer-outcome.ensures.cause) c.finish.ensures.unasked)
    c.code.ensures.value

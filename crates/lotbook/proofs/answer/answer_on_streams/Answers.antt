use Rattle.lotbook.proofs.answer.answer_on_streams.Goals as goal

pub returns : goal.returns
returns g c = record { input = _; before = _; written = _; answers = c.answer-status.ensures }

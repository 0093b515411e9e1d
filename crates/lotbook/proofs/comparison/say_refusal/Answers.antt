use Rattle.lotbook.proofs.comparison.say_refusal.Goals as goal

pub returns-clause-reported : goal.returns-clause-reported
returns-clause-reported c = record { before = _; written = _; all = _; reports = c.write_refusal-status.ensures.reported }

pub returns-clause-stops : goal.returns-clause-stops
returns-clause-stops c = c.write_refusal-status.ensures.stops

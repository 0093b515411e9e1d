-- By the first condition that holds, and by booking each posting.
use Rattle.lot_laws.proofs.StepLemmas.{some_step, step_one}
use Rattle.lot_laws.proofs.steps.a_step_has_one_outcome.Goals as goal

pub returns-clause-some : goal.returns-clause-some
returns-clause-some c = some_step

pub returns-clause-one : goal.returns-clause-one
returns-clause-one c = step_one

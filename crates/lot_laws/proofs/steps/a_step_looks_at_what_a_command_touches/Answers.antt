-- Posting by posting, and condition by condition.
use Rattle.lot_laws.proofs.StepLooks.{same_decision, same_decision_by_key}
use Rattle.lot_laws.proofs.steps.a_step_looks_at_what_a_command_touches.Goals as goal

pub returns-clause-by_opening : goal.returns-clause-by_opening
returns-clause-by_opening c = same_decision

pub returns-clause-by_key : goal.returns-clause-by_key
returns-clause-by_key c = same_decision_by_key

-- What is proposed in the place of a command that is no split is what is tried.
use Rattle.std.proofs.Common.{Option, subst, sym}
use Rattle.lot_book.specs.Openings.{ties_on}
use Rattle.lot_command.specs.declared.command.Command.{Command}
use Rattle.lot_store.specs.Turned.{IsTrial}
use Rattle.lot_view.specs.View.{known, known_with_openings}
use Rattle.lot_store.proofs.TrialLemmas.{completion_tried}
use Rattle.lot_store.proofs.trial.trial_of.Goals as goal

pub returns-in_ok-propose-in-None : goal.returns-in_ok-propose-in-None
returns-in_ok-propose-in-None c =
    let ties = ties_on (known_with_openings c.args.view.now) in
    let facts = known c.args.view.now in
    subst (λ (other : Option Command). IsTrial ties facts c.args.rounding.now c.args.asked.now other) (sym c.completion.ensures)
    (completion_tried ties facts c.args.rounding.now c.args.asked.now c.in-None.is c.in_ok-propose-in-None.field-0 c.in_ok-propose-in-None.ensures)

-- The key is new, so the command is judged by its kind.
use Rattle.std.proofs.Common.{◌≡◌, None, rules}
use Rattle.lot_command.specs.declared.command.Command.TheVariants.{Opening, Closing, Declaring, Quoting, Transaction}
use Rattle.lot_book.specs.declared.refusal.Stop.TheVariants.{Refused}
use Rattle.lot_book.specs.Openings.{ties_for}
use Rattle.lot_ledger.specs.Decide.{StopsStep}
use Rattle.lot_view.specs.View.{known, known_with_openings}
use Rattle.lot_ledger.proofs.ConcludeLemmas.{accepted_new, refused_new}
use Rattle.lot_book.proofs.StopLemmas.{passed_on}
use Rattle.lot_ledger.proofs.decision.decide.Goals as goal
use Rattle.lot_ledger.proofs.decision.decide.Goals.{in-Opening+in_ok-change-in-Opening, in-Closing+in_ok-change-in-Closing, in-Declaring+in_ok-change-in-Declaring, in-Quoting+in_ok-change-in-Quoting, in-Transaction+in_ok-change-in-Transaction}

pub returns-in_err-change-in-Opening-clause-stops : goal.returns-in_err-change-in-Opening-clause-stops
returns-in_err-change-in-Opening-clause-stops c =
    let ties = ties_for c.args.edition (known_with_openings c.args.view.now) in
    let facts = known c.args.view.now in
    let command = c.args.command.now in
    let opening = c.in-Opening.opening in
    let refusal = c.in_err-change-in-Opening.field-0.0 in
    let none : facts.text ≡ None = search rules in
    passed_on c.from_residual-in_err-change-in-Opening.result (Refused refusal) (StopsStep ties facts command) c.from_residual-in_err-change-in-Opening.ensures.1
    (refused_new ties facts command (Opening opening) refusal none c.in-Opening.is (c.in_err-change-in-Opening.ensures.refused ties))

pub returns-in_err-change-in-Closing-clause-stops : goal.returns-in_err-change-in-Closing-clause-stops
returns-in_err-change-in-Closing-clause-stops c =
    let ties = ties_for c.args.edition (known_with_openings c.args.view.now) in
    let facts = known c.args.view.now in
    let command = c.args.command.now in
    let closing = c.in-Closing.closing in
    let refusal = c.in_err-change-in-Closing.field-0.0 in
    let none : facts.text ≡ None = search rules in
    passed_on c.from_residual-in_err-change-in-Closing.result (Refused refusal) (StopsStep ties facts command) c.from_residual-in_err-change-in-Closing.ensures.1
    (refused_new ties facts command (Closing closing) refusal none c.in-Closing.is (c.in_err-change-in-Closing.ensures.refused ties))

pub returns-in_err-change-in-Declaring-clause-stops : goal.returns-in_err-change-in-Declaring-clause-stops
returns-in_err-change-in-Declaring-clause-stops c =
    let ties = ties_for c.args.edition (known_with_openings c.args.view.now) in
    let facts = known c.args.view.now in
    let command = c.args.command.now in
    let declaring = c.in-Declaring.declaring in
    let refusal = c.in_err-change-in-Declaring.field-0.0 in
    let none : facts.text ≡ None = search rules in
    passed_on c.from_residual-in_err-change-in-Declaring.result (Refused refusal) (StopsStep ties facts command) c.from_residual-in_err-change-in-Declaring.ensures.1
    (refused_new ties facts command (Declaring declaring) refusal none c.in-Declaring.is (c.in_err-change-in-Declaring.ensures.refused ties))

pub returns-in_err-change-in-Quoting-clause-stops : goal.returns-in_err-change-in-Quoting-clause-stops
returns-in_err-change-in-Quoting-clause-stops c =
    let ties = ties_for c.args.edition (known_with_openings c.args.view.now) in
    let facts = known c.args.view.now in
    let command = c.args.command.now in
    let quoting = c.in-Quoting.field-0 in
    let refusal = c.in_err-change-in-Quoting.field-0.0 in
    let none : facts.text ≡ None = search rules in
    passed_on c.from_residual-in_err-change-in-Quoting.result (Refused refusal) (StopsStep ties facts command) c.from_residual-in_err-change-in-Quoting.ensures.1
    (refused_new ties facts command (Quoting quoting) refusal none c.in-Quoting.is (c.in_err-change-in-Quoting.ensures.refused ties quoting))

pub returns-clause-decided : goal.returns-clause-decided
returns-clause-decided c =
    let ties = ties_for c.args.edition (known_with_openings c.args.view.now) in
    let facts = known c.args.view.now in
    let command = c.args.command.now in
    let none : facts.text ≡ None = search rules in
    let change = c.match-command.change in
    elim c.match-command.branch [
      | in-Opening+in_ok-change-in-Opening w ↦
          accepted_new ties facts command (Opening w.in-Opening.opening) change _ none w.in-Opening.is w.change-is (w.in_ok-change-in-Opening.ensures.accepted ties)
      | in-Closing+in_ok-change-in-Closing w ↦
          accepted_new ties facts command (Closing w.in-Closing.closing) change _ none w.in-Closing.is w.change-is (w.in_ok-change-in-Closing.ensures.accepted ties)
      | in-Declaring+in_ok-change-in-Declaring w ↦
          accepted_new ties facts command (Declaring w.in-Declaring.declaring) change _ none w.in-Declaring.is w.change-is (w.in_ok-change-in-Declaring.ensures.accepted ties)
      | in-Quoting+in_ok-change-in-Quoting w ↦
          accepted_new ties facts command (Quoting w.in-Quoting.field-0) change _ none w.in-Quoting.is w.change-is (w.in_ok-change-in-Quoting.ensures.accepted ties w.in-Quoting.field-0)
      | in-Transaction+in_ok-change-in-Transaction w ↦
          accepted_new ties facts command (Transaction w.in-Transaction.transaction) change _ none w.in-Transaction.is w.change-is w.in_ok-change-in-Transaction.ensures.accepted
    ]

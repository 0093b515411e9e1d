-- Of a key that is new: the step leaves no room for a completion, there is none, or it is what is tried, if it is within the bound.
use Rattle.std.proofs.Common.{◌≡◌, ◌∙◌, None, sym, ap, subst}
use Rattle.std.specs.Option.{option_copied}
use Rattle.lot_command.specs.declared.command.Command.{Command}
use Rattle.lot_book.specs.Openings.{ties_on}
use Rattle.lot_book.specs.Step.{DecidesUnder}
use Rattle.lot_view.specs.View.{known, known_with_openings}
use Rattle.lot_completion.proofs.TurnLemmas.{none_by_completion, none_by_outcome, proposals}
use Rattle.lot_completion.proofs.turn.propose.Goals as goal

pub returns-then-not-branch : goal.returns-then-not-branch
returns-then-not-branch c =
    let ties = ties_on (known_with_openings c.args.view.now) in
    let facts = known c.args.view.now in
    let new : facts.text ≡ None = sym c.text.ensures ∙ ap option_copied c.in_default-text.is in
    let judged = c.in_ok-may_complete.ensures in
    let decides = subst (λ (command : Command). DecidesUnder ties facts command judged.0) c.in-Transaction.is judged.1 in
    none_by_outcome ties facts c.args.rounding.now c.args.asked.now c.in-Transaction.transaction c.in-Transaction.is new judged.0 decides
    (sym judged.2 ∙ c.if-not-branch.true)

pub returns-in-None-2 : goal.returns-in-None-2
returns-in-None-2 c =
    let ties = ties_on (known_with_openings c.args.view.now) in
    let facts = known c.args.view.now in
    let new : facts.text ≡ None = sym c.text.ensures ∙ ap option_copied c.in_default-text.is in
    none_by_completion ties facts c.args.rounding.now c.args.asked.now c.in-Transaction.transaction c.in-Transaction.is new
    (λ crumbs completed is. c.in_ok-completion.ensures.none c.in-None-2.is crumbs completed is)

pub returns-in-Some-3 : goal.returns-in-Some-3
returns-in-Some-3 c =
    let ties = ties_on (known_with_openings c.args.view.now) in
    let facts = known c.args.view.now in
    let new : facts.text ≡ None = sym c.text.ensures ∙ ap option_copied c.in_default-text.is in
    let judged = c.in_ok-may_complete.ensures in
    let decides = subst (λ (command : Command). DecidesUnder ties facts command judged.0) c.in-Transaction.is judged.1 in
    let completes = rw c.in-Some-3.is at c.in_ok-completion.ensures.some in
    proposals ties facts c.args.rounding.now c.args.asked.now c.in-Transaction.transaction c.in-Transaction.is new judged.0 decides
    (sym judged.2 ∙ c.if-not-branch.false) c.in-Some-3.completion completes c.within.result c.within.ensures

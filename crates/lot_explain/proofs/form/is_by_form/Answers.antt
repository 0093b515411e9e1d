-- By what is tried on a view that has the text alone.
use Rattle.std.proofs.Common.{◌≡◌, ◌∙◌, Bool, None, Some, ap, subst, sym}
use Rattle.std.specs.Prelude.{IsTrue, ◌↔◌}
use Rattle.lot_command.specs.declared.command.Command.TheVariants.{Transaction}
use Rattle.lot_book.specs.Facts.{Facts}
use Rattle.lot_book.specs.Openings.{ties_on}
use Rattle.lot_rounding.specs.declared.asked.Asked.{Asked}
use Rattle.lot_view.specs.View.{known, known_with_openings}
use Rattle.lot_explain.specs.Crumbs.{IsByFormIn}
use Rattle.lot_explain.proofs.FormLemmas.{by_proposal}
use Rattle.lot_explain.proofs.form.is_by_form.Goals as goal

pub returns : goal.returns
returns c =
    let text = c.args.text.now in
    let cash = c.args.cash in
    let t = c.args.transaction.now in
    let view = c.put_text.new.self in
    let facts = known view in
    let says : facts.text ≡ Some text = ap (λ (f : Facts). f.text) c.put_text.ensures.facts ∙ ap Some c.in_ok-from_str.ensures.ok in
    let asked : Asked = record { command = Transaction c.in_ok-copy.field-0; cash = cash; split = None } in
    let is : asked.command ≡ Transaction t = ap Transaction c.in_ok-copy.ensures in
    subst (λ (b : Bool). IsTrue b ↔ IsByFormIn text cash t) (sym c.is_standing.ensures)
    (by_proposal (ties_on (known_with_openings view)) facts c.in_ok-rounding.rounding asked text t says is c.in_ok-proposal.proposal
    c.in_ok-proposal.ensures)

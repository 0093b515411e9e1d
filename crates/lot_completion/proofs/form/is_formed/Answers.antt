-- The rates are unique, so one transaction is compared.
use Rattle.std.proofs.Common.{◌≡◌, ◌∙◌, ◌++◌, ap, subst, sym}
use Rattle.std.proofs.lemmas.Slice.Eq.{bytes_eq-Decides}
use Rattle.lot_command.specs.Canonical.{canonical}
use Rattle.lot_command.specs.Sayable.{IsSayable}
use Rattle.lot_command.specs.declared.command.Command.TheVariants.{Transaction}
use Rattle.lot_command.specs.declared.transaction.Transaction.{Transaction as TransactionOf}
use Rattle.lot_completion.proofs.FormLemmas.{other_text}
use Rattle.lot_completion.specs.Formed.{formed}
use Rattle.lot_completion.specs.Rates.{AreRated}
use Rattle.lot_completion.proofs.form.is_formed.Goals as goal

pub returns : goal.returns
returns c =
    let written = c.args.written.now in
    let crumbs = c.args.crumbs.now in
    let text = c.args.text.now in
    let are : AreRated written.postings c.in-Some.field-0 = rw (c.in-Some.is, c.as_slice.ensures) at c.in_ok-postings.ensures.some in
    let is : c.in_ok-with_postings.field-0 ≡ formed written are.rated crumbs =
    c.in_ok-with_postings.ensures
    ∙ ap (λ ps. record written { postings = ps }) (c.in_ok-push_all.ensures ∙ ap (λ ps. ps ++ crumbs) are.postings) in
    let body : c.as_str.result.now ≡ canonical (Transaction (formed written are.rated crumbs)) =
    c.as_str.ensures.value ∙ c.in_ok-body.ensures ∙ ap (λ (t : TransactionOf). canonical (Transaction t)) is in
    let decides = bytes_eq-Decides c.as_str.result.now text in (
      λ yes. record {
        rated = are.rated;
        rates = are.rates;
        sayable = subst (λ (t : TransactionOf). IsSayable (Transaction t)) is c.is_sayable.ensures;
        says = sym (decides.0 (sym c.eq.ensures ∙ yes)) ∙ body;
      },
      λ it. c.eq.ensures ∙ decides.1 (other_text text c.as_str.result.now written crumbs are.rated are.rates body it),
    )

-- The residuals are looked at with how the account stands; an account that was never opened bars nothing.
use Rattle.std.proofs.Common.{◌≡◌, ℕ, ℤ, List, Option, Some, IfErr, sym, ap, subst, ◌∙◌}
use Rattle.std.specs.Option.{option_copied, option_map}
use Rattle.lot_book.specs.declared.refusal.Refusal.TheVariants.{FillNotAllowed}
use Rattle.lot_book.specs.declared.standing.Standing.{Standing}
use Rattle.lot_book.specs.Balance.{left_over}
use Rattle.lot_ledger.specs.Decide.{first_barred}
use Rattle.lot_view.specs.View.{known}
use Rattle.lot_ledger.proofs.FillLemmas.{none_barred}
use Rattle.lot_ledger.proofs.fill.every_fill_allowed.Goals as goal

pub returns-in_default-clause-ok : goal.returns-in_default-clause-ok
returns-in_default-clause-ok c =
    ap (λ standing. first_barred standing (left_over c.args.residuals.now)) (sym c.standing.ensures ∙ ap option_copied c.in_default.is)
    ∙ none_barred (left_over c.args.residuals.now)

pub returns-clause-refused : goal.returns-clause-refused
returns-clause-refused c =
    let standing : (known c.args.view.now).standing c.args.account.now ≡ Some c.in-Some.standing.now =
    sym c.standing.ensures ∙ ap option_copied c.in-Some.is in
    let own = subst (λ (rs : List (List ℕ × ℤ)). IfErr c.allowed.result
    (λ refusal. option_map FillNotAllowed (first_barred (Some c.in-Some.standing.now) (left_over rs)) ≡ Some refusal))
    c.replace.ensures.value c.allowed.ensures.refused in
    subst (λ (o : Option Standing). IfErr c.allowed.result
    (λ refusal. option_map FillNotAllowed (first_barred o (left_over c.args.residuals.now)) ≡ Some refusal))
    (sym standing) own

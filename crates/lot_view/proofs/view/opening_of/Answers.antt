-- Where nothing is known of an account it holds nothing, and no lot of it has a number.
use Rattle.std.proofs.Common.{◌≡◌, None, Option, ap, subst, sym, option_and_then, option_copied, rules, ◌∙◌}
use Rattle.std.specs.BTreeMap.{get}
use Rattle.std.specs.Option.{unwrap_or}
use Rattle.lot_base.specs.Text.{text_cmp}
use Rattle.lot_inv.specs.Inventory.{NumbersLots, Stock, nothing, opened_at}
use Rattle.lot_inv.specs.Zeros.{HasNoZeros}
use Rattle.lot_book.proofs.HeldLemmas.{no_zeros-empty}
use Rattle.lot_view.proofs.ViewOpenings.{numbers-nothing, none_opened}
use Rattle.lot_view.proofs.view.opening_of.Goals as goal

pub returns-in_err-inventory-clause-value : goal.returns-in_err-inventory-clause-value
returns-in_err-inventory-clause-value c =
    let unknown : None ≡ get text_cmp c.args.held.now c.args.account.now = c.in_err-inventory.ensures.value in
    let none : c.from_residual.result ≡ None = search rules in
    none ∙ sym (ap (λ (o : Option Stock). option_and_then (opened_at (unwrap_or o nothing) c.args.commodity.now) (option_copied c.args.lot)) (sym unknown)
    ∙ none_opened c.args.commodity.now (option_copied c.args.lot))

pub returns-in_err-inventory-clause-numbered : goal.returns-in_err-inventory-clause-numbered
returns-in_err-inventory-clause-numbered c =
    let unknown : None ≡ get text_cmp c.args.held.now c.args.account.now = c.in_err-inventory.ensures.value in
    subst NumbersLots (ap (λ (o : Option Stock). unwrap_or o nothing) unknown) numbers-nothing

pub returns-in_err-inventory-clause-no_zeros : goal.returns-in_err-inventory-clause-no_zeros
returns-in_err-inventory-clause-no_zeros c =
    let unknown : None ≡ get text_cmp c.args.held.now c.args.account.now = c.in_err-inventory.ensures.value in
    subst HasNoZeros (ap (λ (o : Option Stock). (unwrap_or o nothing).held) unknown) no_zeros-empty

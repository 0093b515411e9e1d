-- Behind the last colon stands nothing, or there is no colon at the end.
use Rattle.std.proofs.Common.{◌∙◌, ap, sym, Bool, length, take}
use Rattle.std.specs.Prelude.{◌-◌, if◌then◌else◌}
use Rattle.lot_base.specs.Name.{is_account}
use Rattle.lot_args.specs.Activity.{is_above_accounts}
use Rattle.lot_args.proofs.AccountLemmas.{before_colon, no_colon}
use Rattle.lot_args.proofs.values.names_account.Goals as goal

pub returns-in-Some : goal.returns-in-Some
returns-in-Some c =
    let text = c.args.text.now in
    let cut = before_colon text c.in-Some.front.now c.in-Some.ensures.cases in
    c.is_above_accounts.ensures ∙ ap is_above_accounts cut.1
    ∙ ap (λ (b : Bool). if b then is_above_accounts (take (length text - 1) text) else is_account text) (sym cut.0)

pub returns-in-None : goal.returns-in-None
returns-in-None c =
    let text = c.args.text.now in
    c.is_name.ensures
    ∙ ap (λ (b : Bool). if b then is_above_accounts (take (length text - 1) text) else is_account text) (sym (no_colon text c.in-None.ensures.cases))

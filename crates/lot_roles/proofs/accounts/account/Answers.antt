-- What is put into the pieces is what the row says.
use Rattle.std.proofs.Common.{◌≡◌, ℕ, List, Some, ap, sym, ◌∙◌, subst}
use Rattle.std.specs.Option.{option_map}
use Rattle.std.specs.String.{string_bytes}
use Rattle.lot_profile.specs.declared.role.Role.TheVariants as role
use Rattle.lot_roles.specs.Names.{symbol_text_of}
use Rattle.lot_roles.specs.Parts.{text_of}
use Rattle.lot_roles.specs.Reading.{Gives, Read}
use Rattle.lot_roles.proofs.AccountLemmas.{account_is}
use Rattle.lot_roles.proofs.accounts.account.Goals as goal

pub returns-in-Some-2 : goal.returns-in-Some-2
returns-in-Some-2 c =
    let t : text_of c.args.rules.now c.args.row.now role.Account ≡ c.in_ok-account.account = cc c.in_ok-account.ensures in
    let s : symbol_text_of c.args.rules.now c.args.row.now ≡ c.in_ok-symbol.symbol = cc c.in_ok-symbol.ensures in
    let n = sym c.in_ok-name.ensures ∙ ap (option_map string_bytes) c.in-Some-2.is ∙ ap (λ (name : List ℕ). Some name) (sym c.as_str.ensures.value) in
    subst (λ (read : Read (List ℕ)). Gives c.as_account.result read)
    (sym (account_is c.args.rules.now c.args.row.now c.args.role c.args.currency.now c.in-Some.pieces.now _ _ c.as_str.result.now
    (sym c.in-Some.ensures) t s n)) c.as_account.ensures

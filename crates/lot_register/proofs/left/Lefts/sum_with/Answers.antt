use Rattle.std.proofs.Common.{◌∙◌, ap, subst}
use Rattle.std.specs.Option.{unwrap_or}
use Rattle.std.specs.Prelude.{◌+ℤ◌, SomeIff, pos}
use Rattle.lot_num.specs.Amount.{IsUnits}
use Rattle.lot_register.proofs.left.Lefts.sum_with.Goals as goal

pub returns : goal.returns
returns c =
    subst (λ sum. SomeIff c.checked_add.result (IsUnits (sum +ℤ c.args.units)) (sum +ℤ c.args.units))
    (c.unwrap_or-before.ensures ∙ ap (λ o. unwrap_or o (pos 0)) (c.copied.ensures ∙ c.get.ensures.value)) c.checked_add.ensures

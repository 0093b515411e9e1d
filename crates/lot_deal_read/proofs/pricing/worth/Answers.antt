-- What units are worth is one amount.
use Rattle.std.proofs.Common.{rules, ℤ, ℕ, subst, ap, ◌∙◌}
use Rattle.std.specs.Prelude.{IfSome}
use Rattle.lot_num.specs.Amount.{IsUnits}
use Rattle.lot_rounding.specs.Nearest.{IsRounded}
use Rattle.lot_deal_read.specs.Worth.{in_units, rounded_to_units}
use Rattle.lot_deal_read.proofs.WorthLemmas.{worth_is}
use Rattle.lot_deal_read.proofs.pricing.worth.Goals as goal

pub returns : goal.returns
returns c =
    let range : IfSome c.to_units.result IsUnits = search rules in
    let R : ℕ → Type 0 = λ (decimals : ℕ). IsRounded decimals c.with_fee.result c.rounded.result in
    worth_is c.with_fee.result c.rounded.result c.to_units.result (subst R c.of_units.ensures c.rounded.ensures) range c.to_units.ensures.some c.to_units.ensures.every
    ∙ ap (λ (amount : ℤ). in_units (rounded_to_units amount)) c.with_fee.ensures.value

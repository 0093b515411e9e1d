-- The crumb is what the residual lacks.
use Rattle.std.proofs.Common.{◌≡◌, ℤ, ◌+ℤ◌, subst, arith}
use Rattle.std.proofs.lemmas.Int.{ints}
use Rattle.lot_rounding.specs.Nearest.{IsRounded}
use Rattle.lot_completion.proofs.laws.a_crumb_balances.Goals as goal

pub returns-clause-whole : goal.returns-clause-whole
returns-clause-whole c stated residual crumb is = omega (arith, ints, is)

pub returns-clause-filled : goal.returns-clause-filled
returns-clause-filled c decimals stated residual crumb is =
    let sum : is.0 ≡ residual +ℤ crumb = omega (arith, ints, is.2) in
    subst (λ (rounded : ℤ). IsRounded decimals stated rounded) sum is.1

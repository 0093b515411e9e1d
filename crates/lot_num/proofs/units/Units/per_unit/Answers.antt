-- The rate is the quotient. Where there is none, the division leaves a remainder, or the quotient is too large.
use Rattle.std.proofs.Common.{◌≡◌, ◌/◌, ◌*◌, ◌%◌, ◌<◌, ◌<ℤ◌, pos, ◌∙◌, arith}
use Rattle.std.specs.Prelude.{unsigned_abs, SomeIff}
use Rattle.std.proofs.lemmas.Grind.{common_steps}
use Rattle.lot_num.specs.Amount.{one, rate_limit, IsRate}
use Rattle.lot_num.proofs.PerUnitLemmas.{rate_is, some_where}
use Rattle.lot_num.proofs.units.Units.per_unit.Goals as goal
use Rattle.lot_num.proofs.units.Units.per_unit.Goals.{then-units-eq0-via-then-units-eq0, then-units-eq0-via-else-units-eq0+then-total-units-ne0}

pub returns-then-units-eq0-clause-every : goal.returns-then-units-eq0-clause-every
returns-then-units-eq0-clause-every c rate per =
    let above : c.args.total <ℤ pos 0 → ⊥ = grind (arith, common_steps) in
    let known = rate_is c.args.self c.args.total rate above per in
    let units : c.from-units.result ≡ unsigned_abs c.args.self = grind (arith, common_steps) in
    let total : c.from-total.result ≡ unsigned_abs c.args.total = grind (arith, common_steps) in
    let rest : c.from-total.result * one % c.from-units.result ≡ 0 = (λ i. total i * one % units i) ∙ known.2 in
    elim c.then-units-eq0.branch [
      | then-units-eq0-via-then-units-eq0 w ↦ absurd (omega (arith, w.if-units-eq0.true))
      | then-units-eq0-via-else-units-eq0+then-total-units-ne0 w ↦ absurd (w.if-total-units-ne0.true rest)
    ]

pub returns-in_err-ok-clause-every : goal.returns-in_err-ok-clause-every
returns-in_err-ok-clause-every c rate per =
    let above : c.args.total <ℤ pos 0 → ⊥ = grind (arith, common_steps) in
    let known = rate_is c.args.self c.args.total rate above per in
    let units : c.from-units.result ≡ unsigned_abs c.args.self = grind (arith, common_steps) in
    let total : c.from-total.result ≡ unsigned_abs c.args.total = grind (arith, common_steps) in
    let quotient : c.from-total.result * one / c.from-units.result ≡ rate = (λ i. total i * one / units i) ∙ known.1 in
    let small : rate < rate_limit = per.in_range in
    absurd (grind (arith, common_steps))

pub returns-clause-every : goal.returns-clause-every
returns-clause-every c rate per =
    let above : c.args.total <ℤ pos 0 → ⊥ = grind (arith, common_steps) in
    let known = rate_is c.args.self c.args.total rate above per in
    let units : c.from-units.result ≡ unsigned_abs c.args.self = grind (arith, common_steps) in
    let total : c.from-total.result ≡ unsigned_abs c.args.total = grind (arith, common_steps) in
    let quotient : c.from-total.result * one / c.from-units.result ≡ rate = (λ i. total i * one / units i) ∙ known.1 in
    let is : c.in_ok-ok.field-0 ≡ rate = grind (arith, common_steps) in
    let made : SomeIff c.from_mantissa.result (IsRate rate) rate = rw is at c.from_mantissa.ensures in
    some_where c.from_mantissa.result (IsRate rate) rate made per.in_range

-- There is one mantissa of a magnitude.
use Rattle.std.proofs.Common.{◌≡◌, ap, sym, ◌∙◌, ℤ}
use Rattle.lot_field.specs.Numbers.{sign_and_magnitude, with_sign}
use Rattle.lot_field.specs.declared.numbers.Exactness.{Exactness}
use Rattle.lot_field.specs.declared.numbers.Number.{Number}
use Rattle.lot_field.proofs.NumberLemmas.{one_mantissa}
use Rattle.lot_field.proofs.laws.a_field_says_one_number.Goals as goal

one_number : (a b : Number) → a.units ≡ b.units → a.exactness ≡ b.exactness → a ≡ b
one_number a b e f =
    let made : ℤ → Exactness → Number = λ units exactness. record { units = units; exactness = exactness } in
    ap (λ (units : ℤ). made units a.exactness) e ∙ ap (λ (exactness : Exactness). made b.units exactness) f

pub returns : goal.returns
returns c = λ form field one other h k.
    let same = one_mantissa _ _ h.mantissa k.mantissa one.exactness other.exactness h.reads k.reads in
    one_number one other (h.units ∙ ap (with_sign (sign_and_magnitude form.signs field).0) same.0 ∙ sym k.units) same.1

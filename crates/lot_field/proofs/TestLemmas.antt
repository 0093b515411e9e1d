-- What is asked of a field, as the code finds it.
use Rattle.std.proofs.Common.{◌≡◌, ℕ, Bool, true, false, eqb, List, drop, length, Option, Some, None, refl, ap, subst, sym, ◌∙◌, ℤ}
use Rattle.std.specs.Prelude.{◌↔◌, IsTrue}
use Rattle.std.specs.List.{starts_with}
use Rattle.std.specs.Str.{IsCharBoundary}
use Rattle.std.specs.Str.Pattern.{FindsTextPrefix, StripsPrefix}
use Rattle.std.proofs.lemmas.Str.Pattern.{starts_text}
use Rattle.lot_field.specs.Field.{behind}
use Rattle.lot_field.specs.Numbers.{SaysNumber}
use Rattle.lot_field.specs.Tests.{IsNumberThat}
use Rattle.lot_field.specs.declared.numbers.Number.{Number}
use Rattle.lot_field.specs.declared.numbers.NumberForm.{NumberForm}

-- ---- Beginnings.

pub prefix-none : (word text : List ℕ) → FindsTextPrefix word text None → behind word text ≡ None
prefix-none word text h =
    let not_so : starts_with eqb text word ≡ false = sym (starts_text false word text h) in
    rw not_so refl

pub prefix-some : (word text rest : List ℕ) → StripsPrefix (FindsTextPrefix word) text rest → behind word text ≡ Some rest
prefix-some word text rest (k, found, is, count) =
    let place : k ≡ length word = found.0 in
    let boundary : IsCharBoundary text k = subst (IsCharBoundary text) (sym place) found.2 in
    let so : starts_with eqb text word ≡ true = sym (starts_text true word text (k, found, boundary)) in
    let same : drop (length word) text ≡ rest = ap (λ (n : ℕ). drop n text) (sym place) ∙ sym is in
    rw (so, same) refl

-- ---- Numbers.

pub some-number : (Passes : ℤ → Type 0) (form : NumberForm) (field : List ℕ) (number : Number) (holds : Bool)
    → SaysNumber form field number → ((other : Number) → SaysNumber form field other → Some number ≡ Some other)
    → (IsTrue holds ↔ Passes number.units) → IsTrue holds ↔ IsNumberThat Passes form field
some-number Passes form field number holds says every test = (
  λ yes. (number, says, test.0 yes),
  λ (other, said, passes).
      let same : other ≡ number = cc (every other said) in
      test.1 (subst (λ (n : Number). Passes n.units) same passes),
)

pub none-number : (Passes : ℤ → Type 0) (form : NumberForm) (field : List ℕ)
    → ((other : Number) → SaysNumber form field other → ◌≡◌ {A = Option Number} None (Some other))
    → IsTrue false ↔ IsNumberThat Passes form field
none-number Passes form field every = (λ no. cc no, λ (other, said, passes). cc (every other said))

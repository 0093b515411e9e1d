-- What the values of options name: a text that can't be cut names nothing, and a number is read as it is printed.
use Rattle.std.proofs.Common.{◌≡◌, ℕ, ◌+◌, ◌<◌, ◌^◌, Bool, true, false, cond, List, [], drop, length, Option, Some, None, Result, Ok, Err, refl, ap, ◌∙◌, sym, subst, arith}
use Rattle.std.specs.Prelude.{◌&&◌, ◌==◌, bytes_eq, decimal, nat_lt, option_and_then}
use Rattle.std.specs.Str.{IsUtf8}
use Rattle.std.specs.List.{after_first, before_first, position_or_len}
use Rattle.std.specs.Str.Parse.{ParsesUnsigned, digits_value}
use Rattle.std.proofs.lemmas.Bool.{and_parts}
use Rattle.std.proofs.lemmas.Bool.Decides.{nat_tests}
use Rattle.std.proofs.lemmas.Fmt.{decimal_is_IsNumeral, parse-decimal}
use Rattle.std.proofs.lemmas.List.{drop_all}
use Rattle.std.proofs.lemmas.Option.{none-some}
use Rattle.std.proofs.lemmas.Slice.Eq.{bytes_eq-Decides}
use Rattle.lot_base.specs.Name.{is_label}
use Rattle.lot_without.specs.Value.{is_blank, is_dash, named_entries, named_key, named_number, range_of, under}
use Rattle.lot_without.specs.declared.without.Without.{Without}

-- ---- A text without a blank.

nothing_behind : (p : ℕ → Bool) (text : List ℕ) → position_or_len p text ≡ length text → after_first p text ≡ []
nothing_behind p text none = drop_all (position_or_len p text + 1) text (omega (arith, none))

no_name : is_label [] ≡ false
unfolding is_label
no_name = refl

neither : (a b : Bool) (found : Without) → b ≡ false → cond (a && b) (Some found) None ≡ None
neither true b found is = rw is refl
neither false b found is = refl

pub no_key : (text : List ℕ) → position_or_len is_blank text ≡ length text → named_key text ≡ None
no_key text none =
    neither _ _ _ (ap is_label (nothing_behind is_blank text none) ∙ no_name)

-- ---- A number.

pub number_found : (n : ℕ) → n < 2 ^ 32 → named_number (decimal n) ≡ Some n
unfolding named_number
number_found n small =
    let value : digits_value 10 (decimal n) ≡ n = (decimal_is_IsNumeral n (omega (arith, small))).1 in
    let same : bytes_eq (decimal n) (decimal n) ≡ true = (bytes_eq-Decides (decimal n) (decimal n)).1 refl in
    let low : nat_lt n (2 ^ 32) ≡ true = grind (arith, nat_tests) in
    rw value (rw (same, low) refl)

by_test : (test : Bool) (v n : ℕ) → cond test (Some v) None ≡ Some n → (test ≡ true) × (v ≡ n)
by_test true v n is = (refl, cc)
by_test false v n is = absurd (none-some n is)

pub number_stood : (text : List ℕ) (n : ℕ) → named_number text ≡ Some n → (text ≡ decimal n) × (n < 2 ^ 32)
unfolding named_number
number_stood text n is =
    let both = by_test _ (digits_value 10 text) n is in
    let tests = and_parts _ _ both.0 in
    let value : digits_value 10 text ≡ n = both.1 in
    let whole : text ≡ decimal (digits_value 10 text) = (bytes_eq-Decides text (decimal (digits_value 10 text))).0 tests.0 in
    (whole ∙ ap decimal value, subst (λ v. v < 2 ^ 32) value (grind (arith, nat_tests, tests.1)))

none_of : (text : List ℕ) (o : Option ℕ) → named_number text ≡ o → ((n : ℕ) → n < 2 ^ 32 → text ≡ decimal n → ⊥) → o ≡ None
none_of text None is none = refl
none_of text (Some n) is none = let stood = number_stood text n is in absurd (none n stood.1 stood.0)

no_number : (text : List ℕ) → ((n : ℕ) → n < 2 ^ 32 → text ≡ decimal n → ⊥) → named_number text ≡ None
no_number text none = none_of text (named_number text) refl none

-- what std reads of a text, and the number that it names
module _ {E : Type 0} (text : List ℕ) (read : Result ℕ E) (parsed : ParsesUnsigned 32 10 text read) where
  pub not_read : (e : E) → read ≡ Err e → named_number text ≡ None
  not_read e is =
      no_number text (λ n small whole.
      let ok : read ≡ Ok n = parse-decimal 32 n text read small (omega (arith, small)) whole parsed in cc)

  pub read_as : (n : ℕ) → read ≡ Ok n → text ≡ decimal n → named_number text ≡ Some n
  read_as n is whole =
      let here = rw is at parsed in
      subst (λ (t : List ℕ). named_number t ≡ Some n) (sym whole) (number_found n (omega (arith, here.0.1, here.1)))

  pub read_other : (n : ℕ) → read ≡ Ok n → (text ≡ decimal n → ⊥) → named_number text ≡ None
  read_other n is other =
      no_number text (λ m small whole.
      let ok : read ≡ Ok m = parse-decimal 32 m text read small (omega (arith, small)) whole parsed in
      let one : m ≡ n = cc in
      other (whole ∙ ap decimal one))

-- ---- A text without a dash.

no_digits : named_number [] ≡ None
no_digits =
    no_number [] (λ n small is.
    let numeral = (decimal_is_IsNumeral n (omega (arith, small))).0 in
    let long : 0 < length (decimal n) = numeral.0 in
    omega (arith, long, ap (λ (t : List ℕ). length t) is))

never : {A B : Type 0} (o : Option A) → option_and_then {T = A} {U = B} (λ a. None) o ≡ None
never None = refl
never (Some a) = refl

pub no_range : (text : List ℕ) → position_or_len is_dash text ≡ length text → named_entries text ≡ None
no_range text none =
    let last : named_number (after_first is_dash text) ≡ None = ap named_number (nothing_behind is_dash text none) ∙ no_digits in
    rw last (never (named_number (before_first is_dash text)))

-- The number that a text says is the one that is computed of it.
use Rattle.std.proofs.Common.{◌≡◌, ℕ, ◌+◌, ◌*◌, ◌/◌, ◌%◌, ◌^◌, ◌<◌, ◌≤◌, Bool, true, false, cond, List, Option, Some, None, refl, ap, ◌∙◌, subst, sym, arith, ℤ, pos}
use Rattle.std.specs.Prelude.{IfSome, IsTrue, ◌==◌, nat_lt}
use Rattle.std.proofs.Math.Nat.{one-le-pow, mod-lt, mul-mod_left}
use Rattle.std.proofs.lemmas.Nat.{div-add-mod'}
use Rattle.std.proofs.lemmas.Bool.Decides.{nat_tests}
use Rattle.std.proofs.lemmas.Int.{ints}
use Rattle.lot_num.specs.Amount.{one, units_limit}
use Rattle.lot_rounding.specs.Nearest.{IsNearest}
use Rattle.lot_field.specs.Numbers.{IsExactly, IsMantissa, SaysMagnitude, SaysNumber, is_magnitude, number_of_digits, places, sign_and_magnitude, with_sign}
use Rattle.lot_field.specs.declared.numbers.Exactness.{Exactness}
use Rattle.lot_field.specs.declared.numbers.Exactness.TheVariants.{Exact, Rounded}
use Rattle.lot_field.specs.declared.numbers.Number.{Number}
use Rattle.lot_field.specs.declared.numbers.NumberForm.{NumberForm}
use Rattle.lot_field.proofs.NumberLemmas.{one_mantissa}
use Rattle.lot_roles.specs.Numbers.{exactness_of, half_even, in_range, mantissa_of, number_of, rounds_up}

-- ---- The nearest whole number.

near_down : (x d m s : ℕ) → x ≡ m * d + s → 2 * s ≤ d → (2 * s ≡ d → m % 2 ≡ 0) → IsNearest (pos x) d (pos m)
near_down x d m s is half even = record { near = omega (arith, ints); even = λ same. even (omega (arith, ints)) }

near_up : (x d m s : ℕ) → x ≡ m * d + s → s ≤ d → d ≤ 2 * s → (2 * s ≡ d → m % 2 ≡ 1) → IsNearest (pos x) d (pos (m + 1))
near_up x d m s is most half odd =
    let more : (m + 1) * d ≡ m * d + d = omega arith in
    record { near = omega (arith, ints, more); even = λ same. omega (arith, odd (omega (arith, ints, more))) }

nearest_by : (x d q r : ℕ) (up : Bool) → x ≡ q * d + r → r < d → rounds_up q r d ≡ up → IsNearest (pos x) d (pos (q + cond up 1 0))
nearest_by x d q r true is small e = near_up x d q r is (omega arith) (grind (arith, nat_tests)) (λ same. grind (arith, nat_tests))
nearest_by x d q r false is small e =
    let near = near_down x d q r is (grind (arith, nat_tests)) (λ same. grind (arith, nat_tests)) in
    subst (λ (m : ℕ). IsNearest (pos x) d (pos m)) (omega arith) near

nearest : (x d : ℕ) → 0 < d → IsNearest (pos x) d (pos (half_even x d))
nearest x d some = nearest_by x d (x / d) (x % d) (rounds_up (x / d) (x % d) d) (sym (div-add-mod' x d)) (mod-lt x some) refl

-- ---- Whether it is exact.

exact_by : (x d q r : ℕ) (up : Bool) → x ≡ q * d + r → 0 < d → r ≡ 0 → rounds_up q r d ≡ up → x ≡ (q + cond up 1 0) * d
exact_by x d q r true is some none e = absurd (grind (arith, nat_tests))
exact_by x d q r false is some none e =
    let product : (q + 0) * d ≡ q * d = ap (λ (n : ℕ). n * d) (omega arith) in
    omega (arith, product)

multiple : (m d : ℕ) → (m * d) % d ≡ 0
multiple m d = mul-mod_left m d

exactly_by : (x d : ℕ) (exact : Bool) → 0 < d → (x % d == 0) ≡ exact → (m : ℕ) → m ≡ half_even x d
    → (number places : ℕ) → x ≡ number * one → d ≡ 10 ^ places → IsExactly (cond exact Exact Rounded) number places m
exactly_by x d true some e m is number places x_is d_is =
    let none : x % d ≡ 0 = grind (arith, nat_tests) in
    let same : x ≡ half_even x d * d =
    exact_by x d (x / d) (x % d) (rounds_up (x / d) (x % d) d) (sym (div-add-mod' x d)) some none refl in
    sym x_is ∙ same ∙ ap (λ (n : ℕ). n * d) (sym is) ∙ ap (λ (n : ℕ). m * n) d_is
exactly_by x d false some e m is number places x_is d_is = λ same.
    let product : x ≡ m * d = x_is ∙ same ∙ ap (λ (n : ℕ). m * n) (sym d_is) in
    let none : x % d ≡ 0 = ap (λ (n : ℕ). n % d) product ∙ multiple m d in
    absurd (grind (arith, nat_tests))

computed : (number places : ℕ) → IsMantissa number places (mantissa_of number places) (exactness_of number places)
computed number places =
    let some : 0 < 10 ^ places = one-le-pow places 10 (omega arith) in
    record {
      nearest = nearest (number * one) (10 ^ places) some;
      exactly = exactly_by (number * one) (10 ^ places) (number * one % 10 ^ places == 0) some refl (mantissa_of number places) refl number places refl refl;
    }

-- ---- What a text says.

ranged : (signed : ℕ → ℤ) (m : ℕ) (exactness : Exactness) (small : Bool) (number : Number) → nat_lt m units_limit ≡ small
    → cond small (Some (record { units = signed m; exactness = exactness })) None ≡ Some number
    → (m < units_limit) × (number.units ≡ signed m) × (number.exactness ≡ exactness)
ranged signed m exactness true number e is = (grind (arith, nat_tests), cc, cc)
ranged signed m exactness false number e is = absurd (cc is)

says_by : (form : NumberForm) (text magnitude : List ℕ) (good : Bool) (number : Number) → (sign_and_magnitude form.signs text).1 ≡ magnitude
    → is_magnitude form.decimal form.grouping magnitude ≡ good
    → cond good (in_range (with_sign (sign_and_magnitude form.signs text).0) (mantissa_of (number_of_digits form.decimal magnitude) (places form.decimal magnitude)) (exactness_of (number_of_digits form.decimal magnitude) (places form.decimal magnitude))) None
    ≡ Some number
    → SaysMagnitude form.decimal form.grouping (sign_and_magnitude form.signs text).0 magnitude number
says_by form text magnitude true number at e is =
    let n = number_of_digits form.decimal magnitude in
    let p = places form.decimal magnitude in
    let m = mantissa_of n p in
    let signed = with_sign (sign_and_magnitude form.signs text).0 in
    let range = ranged signed m (exactness_of n p) (nat_lt m units_limit) number refl is in
    record {
      mantissa = m;
      is_magnitude = subst (λ (b : Bool). IsTrue b) (sym e) refl;
      reads = subst (IsMantissa n p m) (sym range.2) (computed n p);
      in_range = range.0;
      units = range.1;
    }
says_by form text magnitude false number at e is = absurd (cc is)

says : (form : NumberForm) (text : List ℕ) (number : Number) → number_of form text ≡ Some number → SaysNumber form text number
unfolding number_of
says form text number is =
    says_by form text (sign_and_magnitude form.signs text).1 (is_magnitude form.decimal form.grouping (sign_and_magnitude form.signs text).1) number refl refl is

one_number : (a : Number) (units : ℤ) (exactness : Exactness) → a.units ≡ units → a.exactness ≡ exactness
    → ◌≡◌ {A = Number} a (record { units = units; exactness = exactness })
one_number a units exactness e f =
    let made : ℤ → Exactness → Number = λ units exactness. record { units = units; exactness = exactness } in
    ap (λ (z : ℤ). made z a.exactness) e ∙ ap (λ (x : Exactness). made units x) f

found : (form : NumberForm) (text : List ℕ) (number : Number) → SaysNumber form text number → number_of form text ≡ Some number
unfolding number_of
found form text number h =
    let magnitude = (sign_and_magnitude form.signs text).1 in
    let signed = with_sign (sign_and_magnitude form.signs text).0 in
    let n = number_of_digits form.decimal magnitude in
    let p = places form.decimal magnitude in
    let same = one_mantissa n p h.mantissa (mantissa_of n p) number.exactness (exactness_of n p) h.reads (computed n p) in
    let good : is_magnitude form.decimal form.grouping magnitude ≡ true = h.is_magnitude in
    let range : mantissa_of n p < units_limit = subst (λ (m : ℕ). m < units_limit) same.0 h.in_range in
    let small : nat_lt (mantissa_of n p) units_limit ≡ true = grind (arith, nat_tests, range) in
    rw (good, small) (ap (λ (number : Number). Some number) (sym (one_number number (signed (mantissa_of n p)) (exactness_of n p)
    (h.units ∙ ap signed same.0) same.1)))

agree : (form : NumberForm) (text : List ℕ) (read computed : Option Number) → number_of form text ≡ computed
    → IfSome read (SaysNumber form text) → ((number : Number) → SaysNumber form text number → read ≡ Some number) → read ≡ number_of form text
agree form text read (Some number) is some every = every number (says form text number is) ∙ sym is
agree form text None None is some every = sym is
agree form text (Some number) None is some every = sym (found form text number some)

-- what is read is what is computed
pub read_is : (form : NumberForm) (text : List ℕ) (read : Option Number) → IfSome read (SaysNumber form text)
    → ((number : Number) → SaysNumber form text number → read ≡ Some number) → read ≡ number_of form text
read_is form text read some every = agree form text read (number_of form text) refl some every

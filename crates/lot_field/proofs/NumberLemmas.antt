-- Digits in groups, and what they say.
use Rattle.std.proofs.Common.{◌≡◌, ◌≢◌, ◌⊎◌, inl, inr, ℕ, zero, suc, ◌+◌, ◌-◌, ◌*◌, ◌%◌, ◌^◌, ◌<◌, ◌≤◌, min, Bool, true, false, cond, eqb, lit<, mul-le-mul_right, List, [], ◌∷◌, ◌++◌, length, get_or, take, drop, drop-cons, take_all, length-append, length-drop, ltb, Option, Some, None, refl, ap, ◌∙◌, subst, sym, rules, arith, add-one, append_assoc, pos}
use Rattle.std.specs.Prelude.{MatchOption}
use Rattle.std.specs.Char.{is_ascii_digit, digit_value}
use Rattle.std.specs.List.{starts_with}
use Rattle.std.specs.Str.Parse.{digits_value}
use Rattle.std.proofs.lemmas.Bool.{and_parts, cases_lt, eqb-true}
use denote.Ref.{Bor}
use mir.Val.{bool_byte}
use Rattle.std.proofs.Math.Nat.{one-le-pow, pow-le-pow_right}
use Rattle.std.proofs.lemmas.List.{drop_all, length-take, take-append-drop}
use Rattle.std.proofs.lemmas.Bool.Decides.{nat_tests}
use Rattle.std.proofs.lemmas.Int.{ints}
use Rattle.std.proofs.lemmas.Int.Digits.{digits_value_push}
use Rattle.std.proofs.lemmas.Grind.{pow_more}
use Rattle.std.proofs.lemmas.Nat.{pow-add}
use Rattle.lot_base.specs.Text.{same_text}
use Rattle.lot_num.specs.Amount.{one}
use Rattle.lot_num.proofs.DigitLemmas.{digit_value-digit}
use Rattle.lot_rounding.specs.Nearest.{IsNearest}
use Rattle.lot_rounding.proofs.NearestLemmas.{one_nearest}
use Rattle.lot_field.specs.Field.{behind}
use Rattle.lot_field.specs.Halves.{RoundsDown, RoundsUp, are_zeros}
use Rattle.lot_field.specs.Numbers.{IsExactly, IsMantissa, are_digits, digits_of, grouped, separator}
use Rattle.lot_field.specs.declared.numbers.Exactness.{Exactness}
use Rattle.lot_field.specs.declared.numbers.Exactness.TheVariants.{Exact, Rounded}

-- ---- Groups.

pub digits-here : (text : List ℕ) (i : ℕ) → i < length text → is_ascii_digit (get_or text i 0) ≡ true
    → digits_of (drop i text) ≡ get_or text i 0 ∷ digits_of (drop (i + 1) text)
digits-here text i within digit =
    ap digits_of (drop-cons text i 0 within)
    ∙ ap (λ t. cond t (get_or text i 0 ∷ digits_of (drop (suc i) text)) (digits_of (drop (suc i) text))) digit
    ∙ ap (λ (k : ℕ). get_or text i 0 ∷ digits_of (drop k text)) (sym (add-one i))

pub digits-other : (text : List ℕ) (i : ℕ) → i < length text → is_ascii_digit (get_or text i 0) ≡ false
    → digits_of (drop i text) ≡ digits_of (drop (i + 1) text)
digits-other text i within other =
    ap digits_of (drop-cons text i 0 within)
    ∙ ap (λ t. cond t (get_or text i 0 ∷ digits_of (drop (suc i) text)) (digits_of (drop (suc i) text))) other
    ∙ ap (λ (k : ℕ). digits_of (drop k text)) (sym (add-one i))

eqb-turned : (a b : ℕ) → eqb a b ≡ eqb b a
eqb-turned a b = grind (arith, nat_tests)

begins : (beginning text others : List ℕ) → starts_with eqb text beginning ≡ true
    → same_text text (beginning ++ others) ≡ same_text (drop (length beginning) text) others
begins [] text others e = refl
begins (b ∷ beginning) [] others e = cc
begins (b ∷ beginning) (c ∷ text) others e =
    let both = and_parts (eqb b c) (starts_with eqb text beginning) e in
    let same : eqb c b ≡ true = eqb-turned c b ∙ both.0 in
    let more = begins beginning text others both.1 in
    rw (same, more) refl

other_byte : (beginning text others : List ℕ) (b c : ℕ) (same : Bool) → eqb b c ≡ same
    → (starts_with eqb text beginning ≡ false → same_text text (beginning ++ others) ≡ false)
    → starts_with eqb (c ∷ text) (b ∷ beginning) ≡ false → same_text (c ∷ text) (b ∷ (beginning ++ others)) ≡ false
other_byte beginning text others b c false f more e =
    let other : eqb c b ≡ false = eqb-turned c b ∙ f in
    rw other refl
other_byte beginning text others b c true f more e =
    let same : eqb c b ≡ true = eqb-turned c b ∙ f in
    let rest = more (rw f at e) in
    rw (same, rest) refl

begins_not : (beginning text others : List ℕ) → starts_with eqb text beginning ≡ false
    → same_text text (beginning ++ others) ≡ false
begins_not [] text others e = cc
begins_not (b ∷ beginning) [] others e = refl
begins_not (b ∷ beginning) (c ∷ text) others e = other_byte beginning text others b c (eqb b c) refl (begins_not beginning text others) e

some_is : {A : Type 0} (a b : A) → Some a ≡ Some b → a ≡ b
some_is a b e = cc

pub behind-some : (beginning text rest others : List ℕ) → behind beginning text ≡ Some rest
    → same_text text (beginning ++ others) ≡ same_text rest others
behind-some beginning text rest others e = go (starts_with eqb text beginning) refl
  where
    go : (b : Bool) → starts_with eqb text beginning ≡ b → same_text text (beginning ++ others) ≡ same_text rest others
    go true f = let is = rw f at e in begins beginning text others f ∙ ap (λ (t : List ℕ). same_text t others) cc
    go false f = let is = rw f at e in cc

pub behind-none : (beginning text others : List ℕ) → behind beginning text ≡ None
    → same_text text (beginning ++ others) ≡ false
behind-none beginning text others e = go (starts_with eqb text beginning) refl
  where
    go : (b : Bool) → starts_with eqb text beginning ≡ b → same_text text (beginning ++ others) ≡ false
    go true f = let is = rw f at e in cc
    go false f = begins_not beginning text others f

-- ---- Digits of a text of digits.

pub digits-themselves : (text : List ℕ) → are_digits text ≡ true → digits_of text ≡ text
digits-themselves [] e = refl
digits-themselves (b ∷ text) e =
    let both = and_parts (is_ascii_digit b) (are_digits text) e in
    let more = digits-themselves text both.1 in
    let first = both.0 in
    rw (first, more) refl

-- ---- What digits say, one text behind another.

push_first : (a ds : List ℕ) (d : ℕ) → (a ++ d ∷ []) ++ ds ≡ a ++ d ∷ ds
push_first a ds d = append_assoc a (d ∷ []) ds

pub value-append : (a b : List ℕ) → digits_value 10 (a ++ b) ≡ digits_value 10 a * 10 ^ length b + digits_value 10 b
value-append a [] =
    let none : a ++ [] ≡ a = search rules in
    ap (digits_value 10) none ∙ (omega arith)
value-append a (d ∷ ds) =
    let left = value-append (a ++ d ∷ []) ds in
    let one_digit = value-append (d ∷ []) ds in
    let more = digits_value_push 10 a d in
    let first = digits_value_push 10 [] d in
    let power : 10 ^ suc (length ds) ≡ 10 ^ length ds * 10 = omega (arith, pow_more 10 (length ds)) in
    ap (digits_value 10) (sym (push_first a ds d)) ∙ left
    ∙ step (digits_value 10 a) (digit_value d) (digits_value 10 (a ++ d ∷ [])) (digits_value 10 (d ∷ [])) (10 ^ length ds) (10 ^ suc (length ds)) (digits_value 10 ds) more first power
    ∙ ap (λ n. digits_value 10 a * 10 ^ suc (length ds) + n) (sym one_digit)
  where
    step : (v d va vd p q r : ℕ) → va ≡ v * 10 + d → vd ≡ 0 * 10 + d → q ≡ p * 10 → va * p + r ≡ v * q + (vd * p + r)
    step v d va vd p q r e f g = rw (e, f, g) (omega arith)

first_digit : (d : ℕ) (ds : List ℕ) → is_ascii_digit d ≡ true → digits_value 10 (d ∷ ds) ≡ (d - 48) * 10 ^ length ds + digits_value 10 ds
first_digit d ds digit =
    let one_digit = value-append (d ∷ []) ds in
    let alone : digits_value 10 (d ∷ []) ≡ d - 48 = omega (arith, digits_value_push 10 [] d, digit_value-digit d digit) in
    one_digit ∙ ap (λ v. v * 10 ^ length ds + digits_value 10 ds) alone

digit_range : (d : ℕ) → is_ascii_digit d ≡ true → (48 ≤ d) × (d ≤ 57)
digit_range d digit = (grind (arith, nat_tests), grind (arith, nat_tests))

below_more : (d v p q : ℕ) → 48 ≤ d → d ≤ 57 → v < p → q ≡ p * 10 → (d - 48) * p + v < q
below_more d v p q low high less power =
    let few : d - 48 ≤ 9 = omega arith in
    let product : (d - 48) * p ≤ 9 * p = mul-le-mul_right p few in
    omega (arith, product)

power_more : (ds : List ℕ) → 10 ^ suc (length ds) ≡ 10 ^ length ds * 10
power_more ds = omega (arith, pow_more 10 (length ds))

pub value-below : (text : List ℕ) → are_digits text ≡ true → digits_value 10 text < 10 ^ length text
value-below [] e = lit< tt
value-below (d ∷ ds) e =
    let both = and_parts (is_ascii_digit d) (are_digits ds) e in
    let range = digit_range d both.0 in
    rw (first_digit d ds both.0)
    (below_more d (digits_value 10 ds) (10 ^ length ds) (10 ^ suc (length ds)) range.0 range.1 (value-below ds both.1) (power_more ds))

-- ---- Zeros.

pub zeros_value : (ds : List ℕ) → are_zeros ds ≡ true → digits_value 10 ds ≡ 0
zeros_value [] e = refl
zeros_value (d ∷ ds) e =
    let both = and_parts (eqb d 48) (are_zeros ds) e in
    let zero_first : d ≡ 48 = eqb-true d 48 both.0 in
    let digit : is_ascii_digit d ≡ true = rw zero_first refl in
    first_digit d ds digit ∙ ap (λ (n : ℕ). (n - 48) * 10 ^ length ds + digits_value 10 ds) zero_first
    ∙ (omega (arith, zeros_value ds both.1))

some_left : (d v p : ℕ) → 48 ≤ d → d ≢ 48 → 0 < p → 0 < (d - 48) * p + v
some_left d v p low other some =
    let least : 1 ≤ d - 48 = omega arith in
    omega (arith, mul-le-mul_right p least)

value_some : (d : ℕ) (ds : List ℕ) (zero_first zeros : Bool) → eqb d 48 ≡ zero_first → are_zeros ds ≡ zeros → is_ascii_digit d ≡ true
    → (are_zeros ds ≡ false → 0 < digits_value 10 ds) → are_zeros (d ∷ ds) ≡ false → 0 < digits_value 10 (d ∷ ds)
value_some d ds true true e f digit more h = cc (rw (e, f) at h)
value_some d ds true false e f digit more h = rw (first_digit d ds digit) (omega (arith, more f))
value_some d ds false zeros e f digit more h =
    let range = digit_range d digit in
    let other : d ≢ 48 = grind (arith, nat_tests) in
    rw (first_digit d ds digit) (some_left d (digits_value 10 ds) (10 ^ length ds) range.0 other (one-le-pow (length ds) 10 (omega arith)))

pub others_value : (ds : List ℕ) → are_digits ds ≡ true → are_zeros ds ≡ false → 0 < digits_value 10 ds
others_value [] e f = cc
others_value (d ∷ ds) e f =
    let both = and_parts (is_ascii_digit d) (are_digits ds) e in
    value_some d ds (eqb d 48) (are_zeros ds) refl refl both.0 (others_value ds both.1) f

-- ---- Halves.

pub rounds_larger : (m : ℕ) (others : List ℕ) → are_digits others ≡ true → 1 ≤ length others → 53 < get_or others 0 0
    → RoundsUp m (digits_value 10 others) (10 ^ length others)
rounds_larger m [] e some more = absurd (omega arith)
rounds_larger m (d ∷ ds) e some more =
    let both = and_parts (is_ascii_digit d) (are_digits ds) e in
    let least : 6 ≤ d - 48 = omega arith in
    let product : 6 * 10 ^ length ds ≤ (d - 48) * 10 ^ length ds = mul-le-mul_right (10 ^ length ds) least in
    let positive : 1 ≤ 10 ^ length ds = one-le-pow (length ds) 10 (omega arith) in
    rw (first_digit d ds both.0) (record { half = omega (arith, product, power_more ds); odd = λ same. absurd (omega (arith, product, same, power_more ds)) })

pub rounds_smaller : (m : ℕ) (others : List ℕ) → are_digits others ≡ true → 1 ≤ length others → get_or others 0 0 < 53
    → RoundsDown m (digits_value 10 others) (10 ^ length others)
rounds_smaller m [] e some less = absurd (omega arith)
rounds_smaller m (d ∷ ds) e some less =
    let both = and_parts (is_ascii_digit d) (are_digits ds) e in
    let most : d - 48 ≤ 4 = omega arith in
    let product : (d - 48) * 10 ^ length ds ≤ 4 * 10 ^ length ds = mul-le-mul_right (10 ^ length ds) most in
    let below = value-below ds both.1 in
    rw (first_digit d ds both.0) (record { half = omega (arith, product, power_more ds); even = λ same. absurd (omega (arith, product, same, power_more ds)) })

five : (others : List ℕ) → are_digits others ≡ true → 1 ≤ length others → get_or others 0 0 ≡ 53
    → 2 * digits_value 10 others ≡ 10 ^ length others + 2 * digits_value 10 (drop 1 others)
five [] e some is = absurd (omega arith)
five (d ∷ ds) e some is =
    let both = and_parts (is_ascii_digit d) (are_digits ds) e in
    let value : digits_value 10 (d ∷ ds) ≡ 5 * 10 ^ length ds + digits_value 10 ds =
    first_digit d ds both.0 ∙ ap (λ (n : ℕ). (n - 48) * 10 ^ length ds + digits_value 10 ds) is in
    omega (arith, value, power_more ds)

pub half_up : (m : ℕ) (others : List ℕ) → are_digits others ≡ true → 1 ≤ length others → get_or others 0 0 ≡ 53
    → are_zeros (drop 1 others) ≡ true → m % 2 ≡ 1 → RoundsUp m (digits_value 10 others) (10 ^ length others)
half_up m others e some is zeros odd =
    record { half = omega (arith, five others e some is, zeros_value (drop 1 others) zeros); odd = λ same. odd }

pub half_down : (m : ℕ) (others : List ℕ) → are_digits others ≡ true → 1 ≤ length others → get_or others 0 0 ≡ 53
    → are_zeros (drop 1 others) ≡ true → (m % 2 ≡ 1 → ⊥) → RoundsDown m (digits_value 10 others) (10 ^ length others)
half_down m others e some is zeros even =
    record { half = omega (arith, five others e some is, zeros_value (drop 1 others) zeros); even = λ same. omega (arith, even) }

digits_behind : (others : List ℕ) → are_digits others ≡ true → are_digits (drop 1 others) ≡ true
digits_behind [] e = refl
digits_behind (d ∷ ds) e = (and_parts (is_ascii_digit d) (are_digits ds) e).1

pub half_more : (m : ℕ) (others : List ℕ) → are_digits others ≡ true → 1 ≤ length others → get_or others 0 0 ≡ 53
    → are_zeros (drop 1 others) ≡ false → RoundsUp m (digits_value 10 others) (10 ^ length others)
half_more m others e some is left =
    let more = others_value (drop 1 others) (digits_behind others e) left in
    record { half = omega (arith, five others e some is); odd = λ same. absurd (omega (arith, five others e some is, same, more)) }

-- ---- A digit and the separator behind it.

pub rest-is : (text : List ℕ) → take (length text - 1) (drop 1 text) ≡ drop 1 text
rest-is text = take_all (length text - 1) (drop 1 text) (omega (arith, length-drop 1 text))

first-is : (text others : List ℕ) (digit : ℕ) → 1 ≤ length text → get_or text 0 0 ≡ digit
    → same_text text (digit ∷ others) ≡ same_text (take (length text - 1) (drop 1 text)) others
first-is [] others digit some is = absurd (omega arith)
first-is (b ∷ text) others digit some is =
    let same : eqb b digit ≡ true = grind (arith, nat_tests) in
    rw (same, rest-is (b ∷ text)) refl

separator-is : (grouping : List ℕ) (left : ℕ) → left % 3 ≡ 0 → (left ≡ 0 → ⊥) → separator grouping left ≡ grouping
separator-is grouping left whole some = grind (arith, nat_tests)

pub by-separator : (r : Option (Bor (List ℕ))) (text grouping : List ℕ) (digit left : ℕ) → 1 ≤ length text → get_or text 0 0 ≡ digit
    → left % 3 ≡ 0 → (left ≡ 0 → ⊥)
    → MatchOption r (behind grouping (take (length text - 1) (drop 1 text)) ≡ None) (λ rest. behind grouping (take (length text - 1) (drop 1 text)) ≡ Some rest.now)
    → MatchOption r ((others : List ℕ) → same_text text (digit ∷ (separator grouping left ++ others)) ≡ false)
    (λ rest. (others : List ℕ) → same_text text (digit ∷ (separator grouping left ++ others)) ≡ same_text rest.now others)
by-separator None text grouping digit left some is whole more h = λ others.
    ap (λ (g : List ℕ). same_text text (digit ∷ (g ++ others))) (separator-is grouping left whole more)
    ∙ first-is text (grouping ++ others) digit some is ∙ behind-none grouping (take (length text - 1) (drop 1 text)) others h
by-separator (Some rest) text grouping digit left some is whole more h = λ others.
    ap (λ (g : List ℕ). same_text text (digit ∷ (g ++ others))) (separator-is grouping left whole more)
    ∙ first-is text (grouping ++ others) digit some is ∙ behind-some grouping (take (length text - 1) (drop 1 text)) rest.now others h

-- no rest is in groups where it doesn't begin with the next digit
pub grouped-stop : (grouping rest digits others : List ℕ) (digit left : ℕ) (all : Bool) → left ≡ length digits → digits ≡ digit ∷ others
    → same_text rest (digit ∷ (separator grouping (left - 1) ++ grouped grouping others)) ≡ false
    → same_text rest (grouped grouping digits) ≡ all → false ≡ all
grouped-stop grouping rest digits others digit left all count is none so_far =
    let fewer : left - 1 ≡ length others = omega (arith, count, ap (λ (t : List ℕ). length t) is) in
    sym none ∙ ap (λ (n : ℕ). same_text rest (digit ∷ (separator grouping n ++ grouped grouping others))) fewer
    ∙ ap (λ (ds : List ℕ). same_text rest (grouped grouping ds)) (sym is) ∙ so_far

-- ---- The parts of a magnitude.

pub place-none : (at end : ℕ) → None ≡ cond (ltb at end) (Some at) None → at ≤ end → at ≡ end
place-none at end e le = grind (arith, nat_tests)

pub place-some : (at end place : ℕ) → Some place ≡ cond (ltb at end) (Some at) None → place ≡ at
place-some at end place e = grind (arith, nat_tests)

-- ---- The nearest mantissa.

near-down : (x d m s : ℕ) → x ≡ m * d + s → 2 * s ≤ d → (2 * s ≡ d → m % 2 ≡ 0) → IsNearest (pos x) d (pos m)
near-down x d m s is half even = record { near = omega (arith, ints); even = λ same. even (omega (arith, ints)) }

near-up : (x d m s : ℕ) → x ≡ m * d + s → s ≤ d → d ≤ 2 * s → (2 * s ≡ d → m % 2 ≡ 1) → IsNearest (pos x) d (pos (m + 1))
near-up x d m s is most half odd =
    let more : (m + 1) * d ≡ m * d + d = omega arith in
    record { near = omega (arith, ints, more); even = λ same. omega (arith, odd (omega (arith, ints, more))) }

decompose : (w f r p q t : ℕ) → p * q ≡ one → (w * (p * t) + (f * t + r)) * one ≡ (w * one + f * q) * (p * t) + r * one
decompose w f r p q t product =
    let scaled : f * t * (p * q) ≡ f * t * one = ap (λ n. f * t * n) product in
    omega (arith, scaled)

-- either there are eight decimals before the others, or there are no others
abbrev AreSplit : ℕ → ℕ → ℕ → Type 0
AreSplit p r t = (p ≡ one) ⊎ ((r ≡ 0) × (t ≡ 1))

down-scaled : (m r p t : ℕ) → AreSplit p r t → 0 < p → RoundsDown m r t → (2 * (r * one) ≤ p * t) × (2 * (r * one) ≡ p * t → m % 2 ≡ 0)
down-scaled m r p t (inl eight) some down =
    rw eight (omega (arith, down.half), λ same. down.even (omega (arith, same)))
down-scaled m r p t (inr (none, alone)) some down =
    rw (none, alone) (omega arith, λ same. absurd (omega (arith, same)))

up-scaled : (m r p t : ℕ) → AreSplit p r t → r < t → RoundsUp m r t
    → (r * one ≤ p * t) × (p * t ≤ 2 * (r * one)) × (2 * (r * one) ≡ p * t → m % 2 ≡ 1)
up-scaled m r p t (inl eight) below up =
    rw eight (omega (arith, below), omega (arith, up.half), λ same. up.odd (omega (arith, same)))
up-scaled m r p t (inr (none, alone)) below up = absurd (omega (arith, up.half, none, alone))

inexact : (m r p t u : ℕ) → AreSplit p r t → 0 < r → r < t → u ≤ 1 → m * (p * t) + r * one ≢ (m + u) * (p * t)
inexact m r p t zero (inl eight) some below few same = absurd (omega (arith, same))
inexact m r p t (suc zero) (inl eight) some below few same =
    let more : (m + 1) * (p * t) ≡ m * (p * t) + p * t = omega arith in
    let product : p * t ≡ one * t = ap (λ n. n * t) eight in
    absurd (omega (arith, same, more, product))
inexact m r p t (suc (suc u)) (inl eight) some below few same = absurd (omega arith)
inexact m r p t u (inr (none, alone)) some below few same = absurd (omega (arith, none))

by-way : (x m r p t : ℕ) (up zeros : Bool) → x ≡ m * (p * t) + r * one → AreSplit p r t → 0 < p → r < t
    → (up ≡ true → RoundsUp m r t) → (up ≡ false → RoundsDown m r t) → (zeros ≡ true → r ≡ 0) → (zeros ≡ false → 0 < r)
    → IsNearest (pos x) (p * t) (pos (m + cond up 1 0)) × ((zeros ≡ true → x ≡ (m + cond up 1 0) * (p * t)) × (zeros ≡ false → x ≢ (m + cond up 1 0) * (p * t)))
by-way x m r p t true zeros is split some below up down none left =
    let scaled = up-scaled m r p t split below (up refl) in (
      near-up x (p * t) m (r * one) is scaled.0 scaled.1 scaled.2,
      (
        λ all. absurd (omega (arith, none all, (up refl).half)),
        λ other same. inexact m r p t 1 split (left other) below (omega arith) (sym is ∙ same),
      ),
    )
by-way x m r p t false zeros is split some below up down none left =
    let scaled = down-scaled m r p t split some (down refl) in
    let itself : m + 0 ≡ m = omega arith in (
      rw itself (near-down x (p * t) m (r * one) is scaled.0 scaled.1),
      (
        λ all. rw itself (omega (arith, is, ap (λ n. n * one) (none all))),
        λ other same. inexact m r p t 0 split (left other) below (omega arith) (sym is ∙ same),
      ),
    )

-- a mantissa that is a nearest one is no less than the whole part
pub no-less : (n d w m : ℕ) → w * d ≤ n → 0 < d → IsNearest (pos (n * one)) d (pos m) → w * one ≤ m
no-less n d w m within some near = elim (cases_lt m (w * one)) [
  | inl less ↦ absurd (too_near less)
  | inr least ↦ least
]
  where
    too_near : m < w * one → ⊥
    too_near less =
        let next : m + 1 ≤ w * one = omega arith in
        let product : (m + 1) * d ≤ w * one * d = mul-le-mul_right d next in
        let spread : (m + 1) * d ≡ m * d + d = omega arith in
        let scaled : w * one * d ≤ n * one = omega (arith, within) in
        let close = near.near in
        omega (arith, ints, product, spread, scaled, close)

-- ---- What is read of a whole part and decimals.

digits-cut : (n : ℕ) (text : List ℕ) → are_digits text ≡ true → (are_digits (take n text) ≡ true) × (are_digits (drop n text) ≡ true)
digits-cut zero text e = (refl, e)
digits-cut (suc n) [] e = (refl, refl)
digits-cut (suc n) (d ∷ ds) e =
    let both = and_parts (is_ascii_digit d) (are_digits ds) e in
    let more = digits-cut n ds both.1 in
    let first = both.0 in
    (rw first more.0, more.1)

pub first-digits : (n : ℕ) (text : List ℕ) → are_digits text ≡ true → are_digits (take n text) ≡ true
first-digits n text e = (digits-cut n text e).0

pub later-digits : (n : ℕ) (text : List ℕ) → are_digits text ≡ true → are_digits (drop n text) ≡ true
later-digits n text e = (digits-cut n text e).1

pub scaled-value : (decimals : List ℕ) (w p : ℕ) → length decimals ≤ 8 → are_digits decimals ≡ true
    → w ≡ min (digits_value 10 (digits_of decimals)) (2 ^ 64 - 1) → p ≡ 10 ^ (8 - length decimals)
    → (w * p ≡ digits_value 10 decimals * 10 ^ (8 - length decimals)) × (w * p < one)
scaled-value decimals w p few digits is power =
    let below = value-below decimals digits in
    let some : 0 < 10 = omega arith in
    let most : 10 ^ length decimals ≤ 10 ^ 8 = pow-le-pow_right some few in
    let same : digits_value 10 (digits_of decimals) ≡ digits_value 10 decimals = ap (digits_value 10) (digits-themselves decimals digits) in
    let value : w ≡ digits_value 10 decimals = omega (arith, is, same, below, most) in
    let sum : length decimals + (8 - length decimals) ≡ 8 = omega arith in
    let product : 10 ^ length decimals * 10 ^ (8 - length decimals) ≡ one = sym (pow-add 10 (length decimals) (8 - length decimals)) ∙ ap (λ n. 10 ^ n) sum in
    (rw (value, power) refl, rw (value, power) (bounded (digits_value 10 decimals) (10 ^ length decimals) (10 ^ (8 - length decimals)) below (one-le-pow (8 - length decimals) 10 (omega arith)) product))
  where
    bounded : (v p q : ℕ) → v < p → 0 < q → p * q ≡ one → v * q < one
    bounded v p q less some product =
        let next : v + 1 ≤ p = omega arith in
        omega (arith, mul-le-mul_right q next, product)

module _ (whole decimals : List ℕ) (n : ℕ) where
  -- the whole part, the first decimals and the others
  abbrev W : ℕ
  W = digits_value 10 (digits_of whole)

  abbrev F : ℕ
  F = digits_value 10 (take n decimals)

  abbrev R : ℕ
  R = digits_value 10 (drop n decimals)

  abbrev P : ℕ
  P = 10 ^ length (take n decimals)

  abbrev T : ℕ
  T = 10 ^ length (drop n decimals)

  cut-again : take n decimals ++ drop n decimals ≡ decimals
  cut-again = take-append-drop n decimals

  tens : 10 ^ length decimals ≡ P * T
  tens =
      let sum : length decimals ≡ length (take n decimals) + length (drop n decimals) = sym (ap (λ (t : List ℕ). length t) cut-again) ∙ length-append (take n decimals) (drop n decimals) in
      ap (λ (k : ℕ). 10 ^ k) sum ∙ pow-add 10 (length (take n decimals)) (length (drop n decimals))

  number : digits_value 10 (digits_of whole ++ decimals) ≡ W * (P * T) + (F * T + R)
  number =
      value-append (digits_of whole) decimals
      ∙ ap (λ (t : ℕ). W * t + digits_value 10 decimals) tens
      ∙ ap (λ (v : ℕ). W * (P * T) + v) (sym (ap (digits_value 10) cut-again) ∙ value-append (take n decimals) (drop n decimals))

  pub whole-within : W * 10 ^ length decimals ≤ digits_value 10 (digits_of whole ++ decimals)
  whole-within = omega (arith, value-append (digits_of whole) decimals)

exactness-is : (exactness : Exactness) (zeros : Bool) (number places mantissa : ℕ) → exactness ≡ cond zeros Exact Rounded
    → (zeros ≡ true → number * one ≡ mantissa * 10 ^ places) → (zeros ≡ false → number * one ≢ mantissa * 10 ^ places)
    → IsExactly exactness number places mantissa
exactness-is exactness true number places mantissa is exact other = subst (λ (e : Exactness). IsExactly e number places mantissa) (sym is) (exact refl)
exactness-is exactness false number places mantissa is exact other = subst (λ (e : Exactness). IsExactly e number places mantissa) (sym is) (other refl)

-- the first eight decimals are eight, or there are no others
split-at-eight : (decimals : List ℕ) → AreSplit (10 ^ length (take (min (length decimals) 8) decimals)) (digits_value 10 (drop (min (length decimals) 8) decimals)) (10 ^ length (drop (min (length decimals) 8) decimals))
split-at-eight decimals = elim (cases_lt (length decimals) 8) [
  | inl few ↦
      let all : min (length decimals) 8 ≡ length decimals = omega arith in
      let none : drop (min (length decimals) 8) decimals ≡ [] = ap (λ (k : ℕ). drop k decimals) all ∙ drop_all (length decimals) decimals (omega arith) in
      inr (ap (digits_value 10) none, ap (λ (t : List ℕ). 10 ^ length t) none)
  | inr many ↦
      let eight : length (take (min (length decimals) 8) decimals) ≡ 8 = omega (arith, length-take (min (length decimals) 8) decimals) in
      inl (ap (λ (k : ℕ). 10 ^ k) eight)
]

pub reads : (whole decimals first others : List ℕ) (w s u : ℕ) (up : Bool) (exactness : Exactness) → are_digits decimals ≡ true
    → first ≡ take (min (length decimals) 8) decimals → others ≡ drop (min (length decimals) 8) decimals
    → w ≡ min (digits_value 10 (digits_of whole)) (2 ^ 64 - 1) → w < 10 ^ 10 → s ≡ digits_value 10 first * 10 ^ (8 - length first)
    → (up ≡ true → RoundsUp (w * 100000000 + s) (digits_value 10 others) (10 ^ length others))
    → (up ≡ false → RoundsDown (w * 100000000 + s) (digits_value 10 others) (10 ^ length others))
    → u ≡ cond up 1 0 → exactness ≡ cond (are_zeros others) Exact Rounded
    → IsMantissa (digits_value 10 (digits_of whole ++ decimals)) (length decimals) (w * 100000000 + s + u) exactness
reads whole decimals first others w s u up exactness digits is_first is_others is_whole few scaled rounds_up rounds_down is_up is_exact =
    let n : ℕ = min (length decimals) 8 in
    let value : w ≡ W whole decimals n = omega (arith, is_whole, few) in
    let within : length (take n decimals) ≤ 8 = omega (arith, length-take n decimals) in
    let sum : length (take n decimals) + (8 - length (take n decimals)) ≡ 8 = omega (arith, within) in
    let product : P whole decimals n * 10 ^ (8 - length (take n decimals)) ≡ one =
    sym (pow-add 10 (length (take n decimals)) (8 - length (take n decimals))) ∙ ap (λ (k : ℕ). 10 ^ k) sum in
    let at_scale : s ≡ F whole decimals n * 10 ^ (8 - length (take n decimals)) =
    scaled ∙ ap (λ (t : List ℕ). digits_value 10 t * 10 ^ (8 - length t)) is_first in
    let whole_number : digits_value 10 (digits_of whole ++ decimals) * one ≡ (w * 100000000 + s) * (P whole decimals n * T whole decimals n) + R whole decimals n * one =
    ap (λ (v : ℕ). v * one) (number whole decimals n)
    ∙ decompose (W whole decimals n) (F whole decimals n) (R whole decimals n) (P whole decimals n) (10 ^ (8 - length (take n decimals))) (T whole decimals n) product
    ∙ ap (λ (m : ℕ). m * (P whole decimals n * T whole decimals n) + R whole decimals n * one)
    (let first_part : W whole decimals n * one + F whole decimals n * 10 ^ (8 - length (take n decimals)) ≡ w * 100000000 + s = omega (arith, value, at_scale) in first_part) in
    let others_digits : are_digits others ≡ true = subst (λ (t : List ℕ). are_digits t ≡ true) (sym is_others) (later-digits n decimals digits) in
    let left : digits_value 10 others ≡ R whole decimals n = ap (digits_value 10) is_others in
    let parts : 10 ^ length others ≡ T whole decimals n = ap (λ (t : List ℕ). 10 ^ length t) is_others in
    let way = by-way (digits_value 10 (digits_of whole ++ decimals) * one) (w * 100000000 + s) (digits_value 10 others) (P whole decimals n) (10 ^ length others) up (are_zeros others)
    (rw (left, parts) whole_number)
    (rw (left, parts) (split-at-eight decimals))
    (one-le-pow (length (take n decimals)) 10 (omega arith))
    (value-below others others_digits)
    rounds_up rounds_down (zeros_value others) (others_value others others_digits) in
    let divisor : P whole decimals n * 10 ^ length others ≡ 10 ^ length decimals = rw parts (sym (tens whole decimals n)) in
    let mantissa : w * 100000000 + s + cond up 1 0 ≡ w * 100000000 + s + u = ap (λ (k : ℕ). w * 100000000 + s + k) (sym is_up) in
    record {
      nearest = rw (divisor, mantissa) at way.0;
      exactly = exactness-is exactness (are_zeros others) _ _ _ is_exact (rw (divisor, mantissa) at way.1.0) (rw (divisor, mantissa) at way.1.1);
    }

pub byte-is : (b : Bool) → bool_byte b ≡ cond b 1 0
byte-is true = refl
byte-is false = refl

-- ---- There is one mantissa.

one_exactness : (a b : Exactness) (number places mantissa : ℕ) → IsExactly a number places mantissa → IsExactly b number places mantissa → a ≡ b
one_exactness Exact Exact n places mantissa h k = refl
one_exactness Exact Rounded n places mantissa h k = absurd (k h)
one_exactness Rounded Exact n places mantissa h k = absurd (h k)
one_exactness Rounded Rounded n places mantissa h k = refl

pub one_mantissa : (number places m o : ℕ) (a b : Exactness) → IsMantissa number places m a → IsMantissa number places o b → (m ≡ o) × (a ≡ b)
one_mantissa number places m o a b h k =
    let same = one_nearest (pos (number * one)) (10 ^ places) (pos m) (pos o) (one-le-pow places 10 (omega arith)) h.nearest k.nearest in
    let equal : m ≡ o = omega (arith, ints, same) in
    (equal, one_exactness a b number places o (subst (λ (n : ℕ). IsExactly a number places n) equal h.exactly) k.exactly)

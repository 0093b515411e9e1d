-- Reading digits one after another.
use Rattle.std.proofs.Common.{◌≡◌, ℕ, ◌+◌, ◌-◌, ◌*◌, ◌^◌, ◌<◌, ◌≤◌, min, true, false, cond, List, [], ◌∷◌, ◌++◌, length, get_or, take, replicate, filter, refl, ap, ◌∙◌, rules, arith, length-append}
use Rattle.std.specs.Char.{is_ascii_digit, digit_value}
use Rattle.std.specs.Str.Parse.{digits_value}
use Rattle.std.specs.List.{list_all}
use Rattle.std.proofs.lemmas.Bool.Decides.{nat_tests}
use Rattle.std.proofs.lemmas.Int.Digits.{digits_value_push, digits_value_more}
use Rattle.std.proofs.lemmas.Str.{digit_value_digit}
use Rattle.std.proofs.lemmas.List.{get_or-replicate, get_or-append_right, get_or_append_left}
use Rattle.std.proofs.lemmas.List.Elements.{filter_more}
use Rattle.std.proofs.lemmas.Grind.{pow_more}
use Rattle.std.proofs.lemmas.List.Recursion.{and_at}
use Rattle.lot_num.specs.NumberText.{is_digits}

digit_bounds : (b : ℕ) → is_ascii_digit b ≡ true → (48 ≤ b) × (b ≤ 57)
digit_bounds b h = (grind (arith, nat_tests), grind (arith, nat_tests))

-- a digit's byte less 48 is its value
pub digit_value-digit : (b : ℕ) → is_ascii_digit b ≡ true → digit_value b ≡ b - 48
digit_value-digit b h =
    let range = digit_bounds b h in
    omega (arith, digit_value_digit b (search (rules, range)))

-- one more digit of a whole part
pub number_more_digit : (text : List ℕ) (i : ℕ) → i < length text → is_ascii_digit (get_or text i 0) ≡ true → digits_value 10 (filter is_ascii_digit (take (i + 1) text)) ≡ digits_value 10 (filter is_ascii_digit (take i text)) * 10 + (get_or text i 0 - 48)
number_more_digit text i within digit =
    ap (digits_value 10) (filter_more is_ascii_digit text i 0 within)
    ∙ ap (λ b. digits_value 10 (filter is_ascii_digit (take i text) ++ cond b (get_or text i 0 ∷ []) [])) digit
    ∙ digits_value_push 10 (filter is_ascii_digit (take i text)) (get_or text i 0)
    ∙ ap (λ d. digits_value 10 (filter is_ascii_digit (take i text)) * 10 + d) (digit_value-digit (get_or text i 0) digit)

append_empty : (xs : List ℕ) → xs ++ [] ≡ xs
append_empty xs = search rules

-- a byte that is no digit changes nothing
pub number_more_other : (text : List ℕ) (i : ℕ) → i < length text → is_ascii_digit (get_or text i 0) ≡ false → digits_value 10 (filter is_ascii_digit (take (i + 1) text)) ≡ digits_value 10 (filter is_ascii_digit (take i text))
number_more_other text i within other =
    ap (digits_value 10) (filter_more is_ascii_digit text i 0 within)
    ∙ ap (λ b. digits_value 10 (filter is_ascii_digit (take i text) ++ cond b (get_or text i 0 ∷ []) [])) other
    ∙ ap (digits_value 10) (append_empty (filter is_ascii_digit (take i text)))

pub digit_of_digits : (digits : List ℕ) (i : ℕ) → is_digits digits ≡ true → i < length digits → is_ascii_digit (get_or digits i 0) ≡ true
digit_of_digits digits i all within = and_at (list_all is_ascii_digit) is_ascii_digit refl (λ _ _. refl) digits i 0 within all

-- one more of the decimals padded with zeros: one that is there, and one that isn't
pub padded_more_digit : (digits : List ℕ) (i : ℕ) → is_digits digits ≡ true → i < length digits → digits_value 10 (take (i + 1) (digits ++ replicate 8 48)) ≡ digits_value 10 (take i (digits ++ replicate 8 48)) * 10 + (get_or digits i 0 - 48)
padded_more_digit digits i all within =
    let inside : i < length (digits ++ replicate 8 48) = omega (arith, length-append digits (replicate 8 48)) in
    digits_value_more 10 (digits ++ replicate 8 48) i inside
    ∙ ap (λ d. digits_value 10 (take i (digits ++ replicate 8 48)) * 10 + d)
    (ap digit_value (get_or_append_left digits (replicate 8 48) 0 i within) ∙ digit_value-digit (get_or digits i 0) (digit_of_digits digits i all within))

pub padded_more_zero : (digits : List ℕ) (i : ℕ) → i < 8 → length digits ≤ i → digits_value 10 (take (i + 1) (digits ++ replicate 8 48)) ≡ digits_value 10 (take i (digits ++ replicate 8 48)) * 10 + 0
padded_more_zero digits i below past =
    let inside : i < length (digits ++ replicate 8 48) = omega (arith, length-append digits (replicate 8 48)) in
    let in_zeros : i - length digits < 8 = omega arith in
    digits_value_more 10 (digits ++ replicate 8 48) i inside
    ∙ ap (λ d. digits_value 10 (take i (digits ++ replicate 8 48)) * 10 + d)
    (ap digit_value (get_or-append_right digits (replicate 8 48) (length digits) i 0 refl past ∙ get_or-replicate 8 (i - length digits) 48 0 in_zeros))

pub digit_small : (digits : List ℕ) (i : ℕ) → is_digits digits ≡ true → i < length digits → get_or digits i 0 - 48 ≤ 9
digit_small digits i all within =
    let range = digit_bounds (get_or digits i 0) (digit_of_digits digits i all within) in
    omega arith

-- a turn of the loop over the decimals
pub decimal_turn : (bytes digits : List ℕ) (value digit place : ℕ) → bytes ≡ digits → is_digits digits ≡ true → value ≡ digits_value 10 (take place (digits ++ replicate 8 48)) → value < 10 ^ place → place < length bytes → digit ≡ get_or bytes place 0 - 48 → (value * 10 + digit ≡ digits_value 10 (take (place + 1) (digits ++ replicate 8 48))) × (value * 10 + digit < 10 ^ (place + 1))
decimal_turn bytes digits value digit place same all so_far bound within is =
    let inside : place < length digits = omega (arith, ap length same) in
    let byte = ap (λ bs. get_or bs place 0) same in
    (omega (arith, padded_more_digit digits place all inside), omega (arith, pow_more 10 place, digit_small digits place all inside))

pub decimal_turn_zero : (bytes digits : List ℕ) (value digit place : ℕ) → bytes ≡ digits → value ≡ digits_value 10 (take place (digits ++ replicate 8 48)) → value < 10 ^ place → place < 8 → length bytes ≤ place → digit ≡ 0 → (value * 10 + digit ≡ digits_value 10 (take (place + 1) (digits ++ replicate 8 48))) × (value * 10 + digit < 10 ^ (place + 1))
decimal_turn_zero bytes digits value digit place same so_far bound below past is =
    let behind : length digits ≤ place = omega (arith, ap length same) in
    (omega (arith, padded_more_zero digits place below behind), omega (arith, pow_more 10 place))

-- a turn of the loop over the whole part, where the value stops at the greatest
pub whole_turn : (text : List ℕ) (i value product sum digit : ℕ) → i < length text → value ≡ min (digits_value 10 (filter is_ascii_digit (take i text))) (2 ^ 64 - 1) → is_ascii_digit (get_or text i 0) ≡ true → digit ≡ get_or text i 0 - 48 → product ≡ min (value * 10) (2 ^ 64 - 1) → sum ≡ min (product + digit) (2 ^ 64 - 1) → sum ≡ min (digits_value 10 (filter is_ascii_digit (take (i + 1) text))) (2 ^ 64 - 1)
whole_turn text i value product sum digit within so_far is_digit is times plus =
    omega (arith, number_more_digit text i within is_digit)

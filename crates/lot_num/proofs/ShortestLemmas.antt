-- A number text that says an amount is no shorter than the printed one.
use Rattle.std.proofs.Common.{◌≡◌, inl, inr, ℕ, zero, suc, ◌+◌, ◌/◌, ◌%◌, ◌^◌, ◌<◌, ◌≤◌, Bool, true, false, not, cond, List, [], ◌∷◌, ◌++◌, length, take, filter, replicate, refl, ap, ◌∙◌, sym, rules, arith, leb, nat_eq, ℤ, pos, negsuc, Result, Ok, Err, length-append}
use Rattle.std.specs.Char.{is_ascii_digit}
use Rattle.std.specs.Fmt.{decimal}
use Rattle.std.specs.Prelude.{if◌then◌else◌}
use Rattle.std.specs.Str.Parse.{AllDigits}
use Rattle.std.proofs.lemmas.Bool.{cases_lt}
use Rattle.std.proofs.lemmas.Bool.Decides.{nat_tests}
use Rattle.std.proofs.lemmas.Fmt.{length-decimal-le}
use Rattle.std.proofs.lemmas.Int.Digits.{digits_value-lt}
use Rattle.std.proofs.lemmas.Str.{digit_value_digit}
use Rattle.std.proofs.lemmas.List.{length-take}
use Rattle.std.proofs.Math.Nat.{pow-le-pow_right}
use Rattle.lot_num.specs.declared.number_text.NumberFault.{NumberFault}
use Rattle.lot_num.specs.declared.number_text.NumberFault.TheVariants.{Syntax, TooManyDecimals, TooLarge}
use Rattle.lot_num.specs.declared.number_text.Sign.{Sign}
use Rattle.lot_num.specs.declared.number_text.Sign.TheVariants.{Plus, Minus}
use Rattle.lot_num.specs.Amount.{one, IsUnits, units_limit, rate_limit}
use Rattle.lot_num.specs.AmountText.{shown_decimals, point_and, magnitude_text, amount_text}
use Rattle.lot_num.specs.NumberGrammar.{AreDigits, IsWhole, IsSign, IsFraction, IsNumberText}
use Rattle.lot_num.specs.NumberText.{sign_of, whole_part, decimals, is_number, whole_number, first_decimals, has_excess, magnitude, read_below, with_sign, with_no_sign, non_negative, units_of, rate_of, signed}
use Rattle.lot_num.proofs.GrammarLemmas.{digit_from_test, text_is_spelled, spelling_is_cut}
use Rattle.lot_num.proofs.DecimalLemmas.{shown_decimals_shown, first_decimals-short}
use Rattle.lot_num.proofs.PrintedLemmas.{spelled_behind}

-- ---- What a text that was read is

abbrev Reads : ℕ → List ℕ → Sign → ℕ → Type 0
Reads limit text sign n = (is_number text ≡ true) × (sign_of text ≡ sign) × (magnitude text ≡ n) × (n < limit)

abbrev choice : Bool → Bool → Bool → Result (Sign × ℕ) NumberFault → Result (Sign × ℕ) NumberFault
choice number excess over read = if not number then Err Syntax else (if excess then Err TooManyDecimals else (if over then Err TooLarge else read))

same_pair : (p q : Sign × ℕ) → (let read : Result (Sign × ℕ) NumberFault = Ok p in read ≡ Ok q) → (p.0 ≡ q.0) × (p.1 ≡ q.1)
same_pair p q h =
    let same : p ≡ q = cc in
    (ap (λ (x : Sign × ℕ). x.0) same, ap (λ (x : Sign × ℕ). x.1) same)

from_choice : (number excess over : Bool) (sign : Sign) (m : ℕ) (s : Sign) (n : ℕ) → choice number excess over (Ok (sign, m)) ≡ Ok (s, n) → (number ≡ true) × (over ≡ false) × (sign ≡ s) × (m ≡ n)
from_choice true false false sign m s n h =
    let parts = same_pair (sign, m) (s, n) h in
    (refl, refl, parts.0, parts.1)
from_choice true false true sign m s n h = cc
from_choice true true over sign m s n h = cc
from_choice false excess over sign m s n h = cc

read_is : (limit : ℕ) (text : List ℕ) (s : Sign) (n : ℕ) → read_below limit text ≡ Ok (s, n) → Reads limit text s n
read_is limit text s n h =
    let parts = from_choice (is_number text) (has_excess (decimals text)) (leb limit (magnitude text)) (sign_of text) (magnitude text) s n h in
    let over = parts.1 in
    let same = parts.3 in
    let under : magnitude text < limit = grind (arith, nat_tests) in
    (parts.0, parts.2, parts.3, omega arith)

-- ---- Digits are below a power of ten

all_digits : (ds : List ℕ) → AreDigits ds → AllDigits 10 ds
all_digits [] h = tt
all_digits (d ∷ ds) h =
    let value = digit_value_digit d (search (rules, h.0)) in
    let range = h.0 in
    (omega arith, all_digits ds h.1)

filtered_by : (b : ℕ) (digit : Bool) → is_ascii_digit b ≡ digit → (rest : List ℕ) → AreDigits rest → AreDigits (cond digit (b ∷ rest) rest)
filtered_by b true e rest h = (digit_from_test b e, h)
filtered_by b false e rest h = h

filtered_digits : (text : List ℕ) → AreDigits (filter is_ascii_digit text)
filtered_digits [] = tt
filtered_digits (b ∷ text) = filtered_by b (is_ascii_digit b) refl (filter is_ascii_digit text) (filtered_digits text)

AreDigits-take : (k : ℕ) (ds : List ℕ) → AreDigits ds → AreDigits (take k ds)
AreDigits-take zero ds h = tt
AreDigits-take (suc k) [] h = tt
AreDigits-take (suc k) (d ∷ ds) h = (h.0, AreDigits-take k ds h.1)

AreDigits-append : (ds es : List ℕ) → AreDigits ds → AreDigits es → AreDigits (ds ++ es)
AreDigits-append [] es h k = k
AreDigits-append (d ∷ ds) es h k = (h.0, AreDigits-append ds es h.1 k)

zeros : AreDigits (replicate 8 48)
zeros = search rules

first_decimals-lt : (ds : List ℕ) → AreDigits ds → first_decimals ds < one
first_decimals-lt ds h =
    let eight = AreDigits-take 8 (ds ++ replicate 8 48) (AreDigits-append ds (replicate 8 48) h zeros) in
    let below = digits_value-lt 10 (take 8 (ds ++ replicate 8 48)) (all_digits _ eight) in
    let size : length (take 8 (ds ++ replicate 8 48)) ≡ 8 = omega (arith, length-take 8 (ds ++ replicate 8 48), length-append ds (replicate 8 48)) in
    let power : 10 ^ length (take 8 (ds ++ replicate 8 48)) ≡ 100000000 = ap (λ k. 10 ^ k) size in
    omega arith

shorter_by : (b : ℕ) (digit : Bool) (rest : List ℕ) (len : ℕ) → length rest ≤ len → length (cond digit (b ∷ rest) rest) ≤ suc len
shorter_by b true rest len h = omega arith
shorter_by b false rest len h = omega arith

length-filter-le : (text : List ℕ) → length (filter is_ascii_digit text) ≤ length text
length-filter-le [] = omega arith
length-filter-le (b ∷ text) = shorter_by b (is_ascii_digit b) (filter is_ascii_digit text) (length text) (length-filter-le text)

whole_nonempty : (whole : List ℕ) → IsWhole whole → 0 < length whole
whole_nonempty [] h = absurd h
whole_nonempty (b ∷ rest) h = omega arith

length-decimal-whole : (whole : List ℕ) (n : ℕ) → IsWhole whole → whole_number whole ≡ n → n < 2 ^ 64 → length (decimal n) ≤ length whole
length-decimal-whole whole n h says small =
    let fewer : length (filter is_ascii_digit whole) ≤ length whole = length-filter-le whole in
    let powers : 10 ^ length (filter is_ascii_digit whole) ≤ 10 ^ length whole = pow-le-pow_right (omega arith) fewer in
    let below = digits_value-lt 10 (filter is_ascii_digit whole) (all_digits _ (filtered_digits whole)) in
    length-decimal-le (length whole) n (whole_nonempty whole h) (omega arith) small

-- ---- Decimals

point_and-le : (ds es back : List ℕ) → length ds ≤ length es → IsFraction es back → length (point_and ds) ≤ length back
point_and-le [] es back fewer fraction = omega arith
point_and-le (d ∷ ds) es back fewer (inl point) = omega (arith, ap length point)
point_and-le (d ∷ ds) es back fewer (inr (left_out, none)) = absurd (omega (arith, ap length none))

shown-le : (least n : ℕ) (ds : List ℕ) → n < 10 ^ 8 → least ≤ length ds → first_decimals ds ≡ n → length (shown_decimals least 8 n) ≤ length ds
shown-le least n ds below enough says =
    let shown = shown_decimals_shown least 8 n below (omega arith) in
    elim (cases_lt 8 (length ds)) [
      | inl many ↦ omega (arith, shown.short)
      | inr few ↦ omega (arith, shown.shortest ds few (sym (first_decimals-short ds few) ∙ says))
    ]

-- ---- Texts

-- the printed magnitude is no longer than what stands behind the sign of a text that says it
magnitude_shortest : (least n : ℕ) (text : List ℕ) (sign : Sign) (spelling : IsNumberText text sign (whole_part text) (decimals text)) → n < units_limit → magnitude text ≡ n → least ≤ length (decimals text) → length spelling.prefix + length (magnitude_text least 8 n) ≤ length text
magnitude_shortest least n text sign spelling below says enough =
    let fraction : first_decimals (decimals text) < one = first_decimals-lt (decimals text) spelling.are_digits in
    let whole_says : whole_number (whole_part text) ≡ n / 10 ^ 8 = omega arith in
    let fraction_says : first_decimals (decimals text) ≡ n % 10 ^ 8 = omega arith in
    let whole : length (decimal (n / 10 ^ 8)) ≤ length (whole_part text) = length-decimal-whole (whole_part text) (n / 10 ^ 8) spelling.is_whole whole_says (omega arith) in
    let shown : length (shown_decimals least 8 (n % 10 ^ 8)) ≤ length (decimals text) = shown-le least (n % 10 ^ 8) (decimals text) (omega arith) enough fraction_says in
    let back : length (point_and (shown_decimals least 8 (n % 10 ^ 8))) ≤ length spelling.back = point_and-le (shown_decimals least 8 (n % 10 ^ 8)) (decimals text) spelling.back shown spelling.is_fraction in
    omega (arith, ap length spelling.spelled, length-append spelling.prefix (whole_part text ++ spelling.back), length-append (whole_part text) spelling.back, length-append (decimal (n / 10 ^ 8)) (point_and (shown_decimals least 8 (n % 10 ^ 8))))

-- an amount below zero is only said with a minus
minus_is_written : (sign : Sign) (prefix : List ℕ) (m n : ℕ) → IsSign sign prefix → signed sign m ≡ negsuc n → (1 ≤ length prefix) × (m ≡ suc n)
minus_is_written Plus prefix m n h says = cc
minus_is_written Minus prefix zero n h says = cc
minus_is_written Minus prefix (suc m) n h says = (omega (arith, ap length h), cc)

-- and of an amount from zero on the magnitude is the amount
magnitude_is : (sign : Sign) (m n : ℕ) → signed sign m ≡ pos n → m ≡ n
magnitude_is Plus m n says = cc
magnitude_is Minus zero n says = cc
magnitude_is Minus (suc m) n says = cc

abbrev SaysUnits : List ℕ → ℤ → Type 0
SaysUnits text z = (sign : Sign) × (n : ℕ) × (read_below units_limit text ≡ Ok (sign, n)) × (signed sign n ≡ z)

from_units : (text : List ℕ) (z : ℤ) (read : Result (Sign × ℕ) NumberFault) → read_below units_limit text ≡ read → with_sign read ≡ Ok z → SaysUnits text z
from_units text z (Ok x) e h = (x.0, x.1, e, cc)
from_units text z (Err fault) e h = cc

least_shortest : (least : ℕ) (z : ℤ) (text : List ℕ) → units_of text ≡ Ok z → least ≤ length (decimals text) → length (amount_text least 8 z) ≤ length text
unfolding amount_text
least_shortest least (pos n) text says enough =
    let (sign, m, read, is) = from_units text (pos n) (read_below units_limit text) refl says in
    let reads = read_is units_limit text sign m read in
    let same = magnitude_is sign m n is in
    let spelling = text_is_spelled text reads.0 in
    omega (arith, magnitude_shortest least n text (sign_of text) spelling (omega (arith, reads.3)) (reads.2 ∙ same) enough)
least_shortest least (negsuc n) text says enough =
    let (sign, m, read, is) = from_units text (negsuc n) (read_below units_limit text) refl says in
    let reads = read_is units_limit text sign m read in
    let spelling = text_is_spelled text reads.0 in
    let minus = minus_is_written (sign_of text) spelling.prefix m n spelling.is_sign (ap (λ s. signed s m) reads.1 ∙ is) in
    omega (arith, minus.0, magnitude_shortest least (suc n) text (sign_of text) spelling (omega (arith, reads.3, minus.1)) (reads.2 ∙ minus.1) enough)

pub units_shortest : (z : ℤ) (text : List ℕ) → units_of text ≡ Ok z → length (amount_text 0 8 z) ≤ length text
units_shortest z text says = least_shortest 0 z text says (omega arith)

pub money_shortest : (z : ℤ) (text : List ℕ) → units_of text ≡ Ok z → 2 ≤ length (decimals text) → length (amount_text 2 8 z) ≤ length text
money_shortest = least_shortest 2

money_spelled : (prefix : List ℕ) (sign : Sign) (n : ℕ) → IsSign sign prefix → n < units_limit → 2 ≤ length (decimals (prefix ++ magnitude_text 2 8 n))
money_spelled prefix sign n is_sign below =
    let cut = spelling_is_cut _ _ _ _ (spelled_behind prefix sign 2 n is_sign below) in
    let shown = shown_decimals_shown 2 8 (n % 10 ^ 8) (omega arith) (omega arith) in
    omega (arith, ap length cut.3, shown.enough)

pub money_decimals : (z : ℤ) → IsUnits z → 2 ≤ length (decimals (amount_text 2 8 z))
unfolding amount_text
money_decimals (pos n) below = money_spelled [] Plus n (inl refl) below
money_decimals (negsuc n) below = money_spelled (45 ∷ []) Minus (suc n) refl below

abbrev SaysRate : List ℕ → ℕ → Type 0
SaysRate text n = (sign : Sign) × (read_below rate_limit text ≡ Ok (sign, n))

rate_sign : (sign : Sign) (m n : ℕ) (zero_rate : Bool) → nat_eq m 0 ≡ zero_rate → non_negative sign m ≡ Ok n → m ≡ n
rate_sign Plus m n zero_rate e says = cc
rate_sign Minus m n true e says = cc (rw e at says)
rate_sign Minus m n false e says = cc (rw e at says)

from_rate : (text : List ℕ) (n : ℕ) (read : Result (Sign × ℕ) NumberFault) → read_below rate_limit text ≡ read → with_no_sign read ≡ Ok n → SaysRate text n
from_rate text n (Ok x) e h = (x.0, e ∙ ap (λ m. Ok (x.0, m)) (rate_sign x.0 x.1 n (nat_eq x.1 0) refl h))
from_rate text n (Err fault) e h = cc

pub rate_shortest : (n : ℕ) (text : List ℕ) → rate_of text ≡ Ok n → length (amount_text 0 8 (pos n)) ≤ length text
unfolding amount_text
rate_shortest n text says =
    let (sign, read) = from_rate text n (read_below rate_limit text) refl says in
    let reads = read_is rate_limit text sign n read in
    omega (arith, magnitude_shortest 0 n text (sign_of text) (text_is_spelled text reads.0) (omega (arith, reads.3)) reads.2 (omega arith))

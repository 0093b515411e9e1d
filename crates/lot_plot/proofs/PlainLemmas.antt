-- No byte of a number for the eye is written by a reference.
use Rattle.std.specs.Prelude.{◌==◌, ◌%◌, ◌^◌, decimal, nat_lt}
use Rattle.std.specs.Fmt.{digits, digits_onto, signed_decimal}
use Rattle.std.proofs.Common.{◌≡◌, ℕ, ℤ, pos, negsuc, zero, suc, ◌+◌, ◌-◌, ◌/◌, ◌<◌, true, false, not, ◌&&◌, List, [], ◌∷◌, ◌++◌, length, take, drop, replicate, ap, refl, inl, inr, arith}
use Rattle.std.specs.List.{position_or_len}
use Rattle.std.proofs.lemmas.Bool.{cases_Bool}
use Rattle.std.proofs.lemmas.Bool.Decides.{nat_tests}
use Rattle.lot_html.specs.Number.{comma_at, comma_before, goes_on, grouped, grouped_digits, grouped_number}
use Rattle.lot_html.specs.Text.{escaped, escaped_byte}
use Rattle.lot_num.specs.AmountText.{amount_text, magnitude_text, point_and, shown_decimals, zero_padded}
use Rattle.lot_plot.specs.Month.{month_text, two_digits, year_of, year_text}
use Rattle.lot_plot.specs.Plot.{percent_text}

-- no byte is written by a reference
abbrev pub ArePlain : List ℕ → Type 0
ArePlain [] = Unit {0}
ArePlain (byte ∷ rest) = (escaped_byte byte ≡ byte ∷ []) × ArePlain rest

pub plain_is : (bytes : List ℕ) → ArePlain bytes → escaped bytes ≡ bytes
plain_is [] plain = refl
plain_is (byte ∷ rest) (own, plain) = rw own (ap (λ (more : List ℕ). byte ∷ more) (plain_is rest plain))

both : (first second : List ℕ) → ArePlain first → ArePlain second → ArePlain (first ++ second)
both [] second one two = two
both (byte ∷ rest) second (own, one) two = (own, both rest second one two)

taken : (n : ℕ) (bytes : List ℕ) → ArePlain bytes → ArePlain (take n bytes)
taken zero bytes plain = tt
taken (suc n) [] plain = tt
taken (suc n) (byte ∷ rest) (own, plain) = (own, taken n rest plain)

dropped : (n : ℕ) (bytes : List ℕ) → ArePlain bytes → ArePlain (drop n bytes)
dropped zero bytes plain = plain
dropped (suc n) [] plain = tt
dropped (suc n) (byte ∷ rest) (own, plain) = dropped n rest plain

-- ---- number texts

digit : (n : ℕ) → n < 10 → escaped_byte (48 + n) ≡ (48 + n) ∷ []
digit n small = grind (arith, nat_tests)

digits_are : (k n : ℕ) (rest : List ℕ) → ArePlain rest → ArePlain (digits_onto k 10 false n rest)
digits_are zero n rest plain = plain
digits_are (suc k) n rest plain =
    let small : nat_lt (n % 10) 10 ≡ true = grind (arith, nat_tests) in
    let last : ArePlain ((48 + n % 10) ∷ rest) = (digit (n % 10) (omega arith), plain) in
    elim (cases_Bool (n / 10 == 0)) [
      | inl is ↦ rw (is, small) last
      | inr isnt ↦ rw (isnt, small) (digits_are k (n / 10) ((48 + n % 10) ∷ rest) last)
    ]

pub decimal_plain : (n : ℕ) → ArePlain (decimal n)
unfolding digits
decimal_plain n = digits_are 64 n [] tt

zeros : (k : ℕ) → ArePlain (replicate k 48)
zeros zero = tt
zeros (suc k) = (refl, zeros k)

padded : (k n : ℕ) → ArePlain (zero_padded k n)
padded k n = both (replicate (k - length (decimal n)) 48) (decimal n) (zeros (k - length (decimal n))) (decimal_plain n)

shown : (least k n : ℕ) → ArePlain (shown_decimals least k n)
unfolding shown_decimals
shown least zero n = tt
shown least (suc k) n = elim (cases_Bool (nat_lt least (suc k) && (n % 10 == 0))) [
  | inl is ↦ rw (is) (shown least k (n / 10))
  | inr isnt ↦ rw (isnt) (padded (suc k) n)
]

pointed : (decimals : List ℕ) → ArePlain decimals → ArePlain (point_and decimals)
pointed [] plain = tt
pointed (first ∷ rest) plain = (refl, plain)

magnitude : (least scale n : ℕ) → ArePlain (magnitude_text least scale n)
magnitude least scale n =
    both (decimal (n / 10 ^ scale)) (point_and (shown_decimals least scale (n % 10 ^ scale))) (decimal_plain (n / 10 ^ scale))
    (pointed (shown_decimals least scale (n % 10 ^ scale)) (shown least scale (n % 10 ^ scale)))

pub amount_plain : (least scale : ℕ) (amount : ℤ) → ArePlain (amount_text least scale amount)
unfolding amount_text
amount_plain least scale (pos n) = magnitude least scale n
amount_plain least scale (negsuc n) = (refl, magnitude least scale (suc n))

pub percent_plain : (share : ℕ) → ArePlain (percent_text share)
percent_plain share =
    both (decimal (share / 10)) (46 ∷ decimal (share % 10)) (decimal_plain (share / 10)) (refl, decimal_plain (share % 10))

pub signed_plain : (amount : ℤ) → ArePlain (signed_decimal amount)
signed_plain (pos n) = decimal_plain n
signed_plain (negsuc n) = (refl, decimal_plain (suc n))

-- ---- months

two : (n : ℕ) → ArePlain (two_digits n)
two n = (digit ((n / 10) % 10) (omega arith), (digit (n % 10) (omega arith), tt))

pub year_plain : (year : ℕ) → ArePlain (year_text year)
year_plain year = both (two_digits ((year / 100) % 100)) (two_digits (year % 100)) (two ((year / 100) % 100)) (two (year % 100))

pub month_plain : (month : ℕ) → ArePlain (month_text month)
month_plain month =
    both (year_text (year_of month)) (45 ∷ two_digits (month % 12 + 1)) (year_plain (year_of month)) (refl, two (month % 12 + 1))

-- ---- numbers for the eye

comma : (left : ℕ) → ArePlain (comma_at left)
comma left = elim (cases_Bool ((left % 3 == 0) && not (left == 0))) [
  | inl is ↦ rw (is) (refl, tt)
  | inr isnt ↦ rw (isnt) tt
]

before : (left : List ℕ) → ArePlain (comma_before left)
before [] = tt
before (byte ∷ rest) = elim (cases_Bool (goes_on byte)) [
  | inl is ↦ rw (is) tt
  | inr isnt ↦ rw (isnt) (comma (length (byte ∷ rest)))
]

digits_grouped : (bytes : List ℕ) → ArePlain bytes → ArePlain (grouped_digits bytes)
digits_grouped [] plain = tt
digits_grouped (byte ∷ rest) (own, plain) =
    (own, both (comma_before rest) (grouped_digits rest) (before rest) (digits_grouped rest plain))

number_grouped : (bytes : List ℕ) → ArePlain bytes → ArePlain (grouped_number bytes)
number_grouped bytes plain =
    let whole = position_or_len (λ (byte : ℕ). byte == 46) bytes in
    both (grouped_digits (take whole bytes)) (drop whole bytes) (digits_grouped (take whole bytes) (taken whole bytes plain))
    (dropped whole bytes plain)

pub grouped_plain : (bytes : List ℕ) → ArePlain bytes → ArePlain (grouped bytes)
grouped_plain [] plain = tt
grouped_plain (byte ∷ rest) (own, plain) = elim (cases_Bool (byte == 45)) [
  | inl is ↦ rw (is) (refl, (refl, (refl, number_grouped rest plain)))
  | inr isnt ↦ rw (isnt) (number_grouped (byte ∷ rest) (own, plain))
]

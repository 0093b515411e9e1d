-- The text of a day is a date of ten bytes.
use Rattle.std.proofs.Common.{◌≡◌, inl, ℕ, zero, suc, ◌+◌, ◌/◌, ◌%◌, ◌<◌, ◌≤◌, Bool, true, false, cond, List, [], ◌∷◌, ◌++◌, length, refl, arith, ℤ}
use Rattle.std.specs.List.{list_all}
use Rattle.std.specs.Char.{is_ascii_digit}
use Rattle.std.proofs.lemmas.Bool.{and_from}
use Rattle.std.proofs.lemmas.Bool.Decides.{nat_tests}
use Rattle.lot_base.specs.Day.{count_to, year_of, month_of, day_of, two_digits, four_digits, date_text, day_text}
use Rattle.lot_syntax.specs.Token.{AreDigits, IsDate, Stands, date}
use Rattle.lot_print.proofs.PieceLemmas.{IsPiece, is_printed, printed}

-- ---- The parts of a date are small.

count_le : (p : ℕ → Bool) (n : ℕ) → count_to p n ≤ n
unfolding count_to
count_le p zero = omega arith
count_le p (suc n) = by (p (suc n)) (count_le p n)
  where
    by : (passes : Bool) → count_to p n ≤ n → count_to p n + cond passes 1 0 ≤ suc n
    by true le = omega arith
    by false le = omega arith

year_small : (n : ℤ) → year_of n < 10_000
unfolding year_of
year_small n = omega (arith, count_le)

month_small : (n : ℤ) → month_of n < 100
unfolding month_of
month_small n = omega (arith, count_le)

day_small : (n : ℤ) → day_of n < 100
unfolding day_of
day_small n = omega (arith, count_le)

-- ---- Their texts.

digit : (q : ℕ) → q < 10 → is_ascii_digit (48 + q) ≡ true
digit q h = grind (arith, nat_tests)

digit_printed : (b : ℕ) → is_ascii_digit b ≡ true → is_printed b ≡ true
digit_printed b e = grind (arith, nat_tests)

tens_digit : (n : ℕ) → n < 100 → is_ascii_digit (48 + n / 10) ≡ true
tens_digit n h = digit (n / 10) (omega arith)

ones_digit : (n : ℕ) → is_ascii_digit (48 + n % 10) ≡ true
ones_digit n = digit (n % 10) (omega arith)

two_are : (n : ℕ) → n < 100 → AreDigits 1 2 (two_digits n)
two_are n h = record {
  least_len = omega arith;
  most_len = omega arith;
  digits = and_from _ _ (tens_digit n h) (and_from _ _ (ones_digit n) refl);
}

four_are : (n : ℕ) → n < 10_000 → AreDigits 4 4 (four_digits n)
four_are n h =
    let high : n / 100 < 100 = omega arith in
    let low : n % 100 < 100 = omega arith in
    record {
      least_len = omega arith;
      most_len = omega arith;
      digits =
          and_from _ _ (tens_digit (n / 100) high)
          (and_from _ _ (ones_digit (n / 100))
          (and_from _ _ (tens_digit (n % 100) low) (and_from _ _ (ones_digit (n % 100)) refl)));
    }

is_date : (y m d : ℕ) → y < 10_000 → m < 100 → d < 100 → IsDate (date_text y m d)
is_date y m d a b c = record {
  year = four_digits y;
  first = 45;
  month = two_digits m;
  second = 45;
  day = two_digits d;
  whole = refl;
  is_year = four_are y a;
  is_first = refl;
  is_month = two_are m b;
  is_second = refl;
  is_day = two_are d c;
}

pub day_stands : (n : ℤ) (rest : List ℕ) → Stands (date (day_text n)) rest
unfolding day_text is_date
day_stands n rest = (is_date (year_of n) (month_of n) (day_of n) (year_small n) (month_small n) (day_small n), inl refl)

two_printed : (n : ℕ) (rest : List ℕ) → n < 100 → list_all is_printed rest ≡ true
    → list_all is_printed (two_digits n ++ rest) ≡ true
two_printed n rest h more =
    and_from _ _ (digit_printed (48 + n / 10) (tens_digit n h)) (and_from _ _ (digit_printed (48 + n % 10) (ones_digit n)) more)

date_printed : (y m d : ℕ) → y < 10_000 → m < 100 → d < 100 → list_all is_printed (date_text y m d) ≡ true
date_printed y m d a b c =
    let by_day = two_printed d [] c refl in
    let by_month = two_printed m (45 ∷ two_digits d) b (and_from _ _ refl by_day) in
    two_printed (y / 100) (two_digits (y % 100) ++ 45 ∷ (two_digits m ++ 45 ∷ two_digits d)) (omega arith)
    (two_printed (y % 100) (45 ∷ (two_digits m ++ 45 ∷ two_digits d)) (omega arith) (and_from _ _ refl by_month))

pub day_piece : (n : ℤ) → IsPiece 10 (day_text n)
unfolding day_text
day_piece n =
    printed 10 (day_text n) (date_printed (year_of n) (month_of n) (day_of n) (year_small n) (month_small n) (day_small n))
    (omega arith)

-- its first byte is a digit
pub record StartsWithDigit (bytes : List ℕ) : Type 0 where
  pub first : ℕ
  pub rest : List ℕ
  pub whole : bytes ≡ first ∷ rest
  pub is_digit : is_ascii_digit first ≡ true

pub day_starts : (n : ℤ) → StartsWithDigit (day_text n)
unfolding day_text
day_starts n = record {
  first = 48 + year_of n / 100 / 10;
  rest = _;
  whole = refl;
  is_digit = tens_digit (year_of n / 100) (omega (arith, year_small n));
}

pub length-day_text : (n : ℤ) → length (day_text n) ≡ 10
unfolding day_text
length-day_text n = refl

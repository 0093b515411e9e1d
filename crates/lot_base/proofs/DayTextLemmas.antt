-- The date that a text says, part by part.
use Rattle.std.proofs.Common.{◌≡◌, ℕ, ◌+◌, ◌*◌, ◌/◌, ◌%◌, ◌<◌, inl, inr, Bool, true, false, List, [], ◌∷◌, length, get_or, Option, Some, None, refl, sym, ap, ◌∙◌, arith}
use Rattle.std.specs.Prelude.{cond, not, nat_le, ◌&&◌}
use Rattle.std.specs.Char.{digit_value, is_ascii_digit}
use Rattle.std.specs.List.{slice_split, onto_first, list_all, position_or_len, before_first, after_first}
use Rattle.std.proofs.lemmas.Bool.{and_right, cases_order, not-false}
use Rattle.std.proofs.lemmas.List.Folds.{list_all_at}
use Rattle.std.proofs.lemmas.List.Sums.{prefix_len_stops, prefix_len-le-length}
use Rattle.std.proofs.lemmas.Bool.Decides.{nat_tests}
use Rattle.std.proofs.lemmas.List.Splits.{slice_split_first}
use Rattle.std.proofs.lemmas.Str.{digit_value_digit}
use Rattle.lot_base.specs.Day.{is_separator, number_in, date_of, date_in, named_date, two_digits, four_digits, date_text}
use Rattle.lot_base.proofs.SplitLemmas.{slice_split-whole}

pub named_date-one : (text : List ℕ) → slice_split is_separator text ≡ text ∷ [] → None ≡ named_date text
unfolding named_date
named_date-one text e = rw e

pub named_date-two : (text year rest : List ℕ) → slice_split is_separator text ≡ year ∷ slice_split is_separator rest
    → slice_split is_separator rest ≡ rest ∷ [] → None ≡ named_date text
unfolding named_date
named_date-two text year rest e f = rw (e, f)

date_of-no_day : (year month : Option ℕ) → date_of year month None ≡ None
date_of-no_day None month = refl
date_of-no_day (Some y) None = refl
date_of-no_day (Some y) (Some m) = refl

separator-no_digit : (b : ℕ) → is_separator b ≡ true → is_ascii_digit b ≡ false
separator-no_digit b h = grind (arith, nat_tests)

-- a part with a separator in it is no number
number_in-separator : (least most : ℕ) (part : List ℕ) → position_or_len is_separator part < length part → number_in least most part ≡ None
number_in-separator least most part h =
    let at = position_or_len is_separator part in
    let here : is_separator (get_or part at 0) ≡ true = not-false _ (prefix_len_stops (λ b. not (is_separator b)) part 0 h) in
    let other : list_all is_ascii_digit part ≡ false = list_all_at is_ascii_digit part at 0 h (separator-no_digit (get_or part at 0) here) in
    let no : (nat_le least (length part) && nat_le (length part) most && list_all is_ascii_digit part) ≡ false = rw other (and_right _ false refl) in
    rw no

-- four parts or more are no date
some_parts : (year month day : List ℕ) (b : ℕ) (cuts : Bool) (parts : List (List ℕ))
    → date_in (year ∷ month ∷ day ∷ cond cuts ([] ∷ parts) (onto_first b parts)) ≡ None
some_parts year month day b true parts = refl
some_parts year month day b false [] = refl
some_parts year month day b false (part ∷ parts) = refl

more_parts : (year month day rest : List ℕ) → date_in (year ∷ month ∷ day ∷ slice_split is_separator rest) ≡ None
more_parts year month day [] = refl
more_parts year month day (b ∷ rest) = some_parts year month day b (is_separator b) (slice_split is_separator rest)

-- the third part is all that stands after the second separator
last_part : (year month part : List ℕ)
    → date_in (year ∷ month ∷ slice_split is_separator part) ≡ date_of (number_in 4 4 year) (number_in 1 2 month) (number_in 1 2 part)
last_part year month part =
    elim (cases_order (position_or_len is_separator part) (length part)) [
      | inr (inl lt) ↦
          let none = number_in-separator 1 2 part lt in
          rw (slice_split_first is_separator part 0 lt)
          (more_parts year month (before_first is_separator part) (after_first is_separator part)
          ∙ sym (date_of-no_day (number_in 4 4 year) (number_in 1 2 month)) ∙ ap (date_of (number_in 4 4 year) (number_in 1 2 month)) (sym none))
      | inl same ↦ rw (slice_split-whole is_separator part 0 same) refl
      | inr (inr gt) ↦ absurd (omega (arith, prefix_len-le-length (λ b. not (is_separator b)) part))
    ]

pub named_date-three : (text year rest month day : List ℕ) (y m d : Option ℕ)
    → slice_split is_separator text ≡ year ∷ slice_split is_separator rest
    → slice_split is_separator rest ≡ month ∷ slice_split is_separator day
    → y ≡ number_in 4 4 year → m ≡ number_in 1 2 month → d ≡ number_in 1 2 day
    → date_of y m d ≡ named_date text
unfolding named_date
named_date-three text year rest month day y m d e f a b c = rw (e, f, a, b, c) (sym (last_part year month day))

-- ---- the text of a date

digit-no_separator : (q : ℕ) → is_separator (48 + q) ≡ false
digit-no_separator q = grind (arith, nat_tests)

digit-is : (q : ℕ) → q < 10 → is_ascii_digit (48 + q) ≡ true
digit-is q h = grind (arith, nat_tests)

digit-says : (q : ℕ) → q < 10 → digit_value (48 + q) ≡ q
digit-says q h = omega (arith, digit_value_digit (48 + q) (omega arith, omega arith))

number_in-two : (n : ℕ) → n < 100 → number_in 1 2 (two_digits n) ≡ Some n
number_in-two n h =
    let value : (0 * 10 + n / 10) * 10 + n % 10 ≡ n = omega arith in
    rw (digit-is (n / 10) (omega arith), digit-is (n % 10) (omega arith), digit-says (n / 10) (omega arith), digit-says (n % 10) (omega arith), value)

number_in-four : (n : ℕ) → n < 10_000 → number_in 4 4 (four_digits n) ≡ Some n
number_in-four n h =
    let value : (((0 * 10 + n / 100 / 10) * 10 + n / 100 % 10) * 10 + n % 100 / 10) * 10 + n % 100 % 10 ≡ n = omega arith in
    rw (digit-is (n / 100 / 10) (omega arith), digit-is (n / 100 % 10) (omega arith), digit-is (n % 100 / 10) (omega arith), digit-is (n % 100 % 10) (omega arith), digit-says (n / 100 / 10) (omega arith), digit-says (n / 100 % 10) (omega arith), digit-says (n % 100 / 10) (omega arith), digit-says (n % 100 % 10) (omega arith), value)

date_text-parts : (y m d : ℕ) → slice_split is_separator (date_text y m d) ≡ four_digits y ∷ two_digits m ∷ two_digits d ∷ []
date_text-parts y m d =
    rw (digit-no_separator (y / 100 / 10), digit-no_separator (y / 100 % 10), digit-no_separator (y % 100 / 10), digit-no_separator (y % 100 % 10), digit-no_separator (m / 10), digit-no_separator (m % 10), digit-no_separator (d / 10), digit-no_separator (d % 10))

-- the text of a date says the date
pub named_date-date_text : (y m d : ℕ) → y < 10_000 → m < 100 → d < 100 → named_date (date_text y m d) ≡ Some (y, m, d)
unfolding named_date
named_date-date_text y m d a b c = rw (date_text-parts y m d, number_in-four y a, number_in-two m b, number_in-two d c)

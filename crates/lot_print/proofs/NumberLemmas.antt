-- The text of units, of a rate or of a total is a number, no longer than `longest_number`.
use Rattle.std.proofs.Common.{◌≡◌, inl, ℕ, suc, ◌+◌, ◌/◌, ◌%◌, ◌^◌, ◌<◌, ◌≤◌, Bool, true, false, ◌||◌, List, [], ◌∷◌, ◌++◌, length, refl, ap, ◌∙◌, arith, eqb, length-append, ℤ, pos, negsuc}
use Rattle.std.specs.List.{list_all}
use Rattle.std.specs.Char.{is_ascii_digit}
use Rattle.std.specs.Fmt.{decimal}
use Rattle.std.proofs.lemmas.Bool.{and_parts, and_from}
use Rattle.std.proofs.lemmas.Bool.Decides.{nat_tests}
use Rattle.std.proofs.lemmas.Fmt.{decimal_nonempty, length-decimal-le}
use Rattle.lot_num.specs.Amount.{IsUnits, IsRate, units_limit}
use Rattle.lot_num.specs.AmountText.{shown_decimals, point_and, magnitude_text, amount_text}
use Rattle.lot_num.specs.NumberGrammar.{AreDigits}
use Rattle.lot_num.proofs.GrammarLemmas.{test_from_digit}
use Rattle.lot_num.proofs.DecimalLemmas.{decimal_digits, shown_decimals_shown}
use Rattle.lot_base.specs.Day.{is_separator}
use Rattle.lot_command.specs.Canonical.{units_text, rate_text}
use Rattle.lot_syntax.specs.Token.{HasDate, IsFraction, IsNumber, IsSignPart, IsWhole, EndsNumber, Stands, begins, begins_comma_digit, begins_with, is_word_byte, number}
use Rattle.lot_syntax.proofs.DateLemmas.{Four, four}
use Rattle.lot_print.proofs.Lengths.{longest_number}
use Rattle.lot_print.proofs.ListLemmas.{all_pass, both_pass, first_passes}
use Rattle.lot_print.proofs.PieceLemmas.{IsPiece, is_printed, printed}

-- ---- What may stand behind a number.

-- nothing that belongs to a word, to a number or to a date
pub record IsApart (rest : List ℕ) : Type 0 where
  pub word : begins is_word_byte rest ≡ false
  pub digit : begins is_ascii_digit rest ≡ false
  pub group : begins_comma_digit rest ≡ false
  pub point : begins_with 46 rest ≡ false
  pub separator : begins is_separator rest ≡ false

pub at_end : IsApart []
at_end = record { word = refl; digit = refl; group = refl; point = refl; separator = refl }

pub before_space : (rest : List ℕ) → IsApart (32 ∷ rest)
before_space rest = record { word = refl; digit = refl; group = refl; point = refl; separator = refl }

pub before_comma : (rest : List ℕ) → IsApart (44 ∷ 32 ∷ rest)
before_comma rest = record { word = refl; digit = refl; group = refl; point = refl; separator = refl }

pub before_brace : (rest : List ℕ) → IsApart (125 ∷ rest)
before_brace rest = record { word = refl; digit = refl; group = refl; point = refl; separator = refl }

-- ---- No date stands at the front of a number.

record DateFront (bytes : List ℕ) : Type 0 where
  a : ℕ
  b : ℕ
  c : ℕ
  d : ℕ
  s : ℕ
  rest : List ℕ
  whole : bytes ≡ a ∷ b ∷ c ∷ d ∷ s ∷ rest
  a_digit : is_ascii_digit a ≡ true
  b_digit : is_ascii_digit b ≡ true
  c_digit : is_ascii_digit c ≡ true
  d_digit : is_ascii_digit d ≡ true
  separates : is_separator s ≡ true

date_front : (bytes : List ℕ) → HasDate bytes → DateFront bytes
date_front bytes (found, rest, d, whole) = by d.year (four d.year d.is_year) (whole ∙ ap (λ xs. xs ++ rest) d.whole)
  where
    by : (year : List ℕ) → Four year → bytes ≡ (year ++ d.first ∷ (d.month ++ d.second ∷ d.day)) ++ rest → DateFront bytes
    by [] h e = absurd h
    by (a ∷ []) h e = absurd h
    by (a ∷ b ∷ []) h e = absurd h
    by (a ∷ b ∷ c ∷ []) h e = absurd h
    by (a ∷ b ∷ c ∷ e ∷ []) h is = record {
      a = a;
      b = b;
      c = c;
      d = e;
      s = d.first;
      rest = (d.month ++ d.second ∷ d.day) ++ rest;
      whole = is;
      a_digit = h.0;
      b_digit = h.1;
      c_digit = h.2;
      d_digit = h.3;
      separates = d.is_first;
    }
    by (a ∷ b ∷ c ∷ e ∷ f ∷ more) h is = absurd h

-- a digit or a point
abbrev is_unsigned : ℕ → Bool
is_unsigned b = is_ascii_digit b || eqb b 46

starts : (p : ℕ → Bool) (b : ℕ) (bytes rest : List ℕ) → bytes ≡ b ∷ rest → p b ≡ true → begins p bytes ≡ false → ⊥
starts p b bytes rest e passes none = cc

unsigned_separates : (b : ℕ) → is_unsigned b ≡ true → is_separator b ≡ true → ⊥
unsigned_separates b e f = grind (arith, nat_tests)

no_date_front : (bytes rest : List ℕ) → list_all is_unsigned bytes ≡ true → IsApart rest → DateFront (bytes ++ rest) → ⊥
no_date_front [] rest all apart f = starts is_ascii_digit f.a rest (f.b ∷ f.c ∷ f.d ∷ f.s ∷ f.rest) f.whole f.a_digit apart.digit
no_date_front (a ∷ []) rest all apart f =
    starts is_ascii_digit f.b rest (f.c ∷ f.d ∷ f.s ∷ f.rest) (cc (f.whole)) f.b_digit apart.digit
no_date_front (a ∷ b ∷ []) rest all apart f =
    starts is_ascii_digit f.c rest (f.d ∷ f.s ∷ f.rest) (cc (f.whole)) f.c_digit apart.digit
no_date_front (a ∷ b ∷ c ∷ []) rest all apart f =
    starts is_ascii_digit f.d rest (f.s ∷ f.rest) (cc (f.whole)) f.d_digit apart.digit
no_date_front (a ∷ b ∷ c ∷ d ∷ []) rest all apart f =
    starts is_separator f.s rest f.rest (cc (f.whole)) f.separates apart.separator
no_date_front (a ∷ b ∷ c ∷ d ∷ s ∷ more) rest all apart f =
    let same : s ≡ f.s = cc (f.whole) in
    let one = first_passes is_unsigned a (b ∷ c ∷ d ∷ s ∷ more) all in
    let two = first_passes is_unsigned b (c ∷ d ∷ s ∷ more) one.1 in
    let three = first_passes is_unsigned c (d ∷ s ∷ more) two.1 in
    let four = first_passes is_unsigned d (s ∷ more) three.1 in
    unsigned_separates s (first_passes is_unsigned s more four.1).0 (ap is_separator same ∙ f.separates)

no_date : (bytes rest : List ℕ) → list_all is_unsigned bytes ≡ true → IsApart rest → HasDate (bytes ++ rest) → ⊥
no_date bytes rest all apart h = no_date_front bytes rest all apart (date_front (bytes ++ rest) h)

-- ---- Digits, with a point among them or not.

test_digits : (ds : List ℕ) → AreDigits ds → list_all is_ascii_digit ds ≡ true
test_digits [] h = refl
test_digits (d ∷ ds) h = and_from _ _ (test_from_digit d h.0) (test_digits ds h.1)

is_whole : (ds : List ℕ) → list_all is_ascii_digit ds ≡ true → 0 < length ds → IsWhole ds
is_whole [] all some = absurd (omega arith)
is_whole (d ∷ []) all some = (and_parts _ _ all).0
is_whole (d ∷ c ∷ rest) all some =
    let parts = and_parts (is_ascii_digit d) (list_all is_ascii_digit (c ∷ rest)) all in
    (parts.0, inl (is_whole (c ∷ rest) parts.1 (omega arith)))

is_fraction : (ds : List ℕ) → list_all is_ascii_digit ds ≡ true → IsFraction (point_and ds)
is_fraction [] all = tt
is_fraction (d ∷ ds) all = (refl, all)

fraction_ends : (ds rest : List ℕ) → IsApart rest → EndsNumber (point_and ds) rest
fraction_ends [] rest apart = (apart.digit, apart.group, apart.point)
fraction_ends (d ∷ ds) rest apart = apart.digit

digit_unsigned : (b : ℕ) → is_ascii_digit b ≡ true → is_unsigned b ≡ true
digit_unsigned b e = grind (arith, nat_tests)

fraction_unsigned : (ds : List ℕ) → list_all is_ascii_digit ds ≡ true → list_all is_unsigned (point_and ds) ≡ true
fraction_unsigned [] all = refl
fraction_unsigned (d ∷ ds) all = and_from _ _ refl (all_pass is_ascii_digit is_unsigned digit_unsigned (d ∷ ds) all)

fraction_short : (k : ℕ) (ds : List ℕ) → length ds ≤ k → length (point_and ds) ≤ k + 1
fraction_short k [] le = omega arith
fraction_short k (d ∷ ds) le = omega arith

-- the parts of a magnitude: its digits, and perhaps a point and more digits behind it
record IsMagnitude (bytes : List ℕ) : Type 0 where
  digits : List ℕ
  decimals : List ℕ
  whole : bytes ≡ digits ++ point_and decimals
  are_digits : list_all is_ascii_digit digits ≡ true
  some : 0 < length digits
  are_decimals : list_all is_ascii_digit decimals ≡ true
  short : length digits ≤ 10
  few : length decimals ≤ 8

magnitude : (n : ℕ) → n < units_limit → IsMagnitude (magnitude_text 0 8 n)
magnitude n below =
    let small : n / 10 ^ 8 < 2 ^ 64 = omega arith in
    let shown = shown_decimals_shown 0 8 (n % 10 ^ 8) (omega arith) (omega arith) in
    record {
      digits = decimal (n / 10 ^ 8);
      decimals = shown_decimals 0 8 (n % 10 ^ 8);
      whole = refl;
      are_digits = test_digits _ (decimal_digits (n / 10 ^ 8) small);
      some = decimal_nonempty (n / 10 ^ 8) small;
      are_decimals = test_digits _ shown.digits;
      short = length-decimal-le 10 (n / 10 ^ 8) (omega arith) (omega arith) small;
      few = shown.short;
    }

-- ---- Numbers.

signed_number : (sign bytes rest : List ℕ) → IsSignPart sign → IsMagnitude bytes → IsApart rest → IsNumber (sign ++ bytes) rest
signed_number sign bytes rest s m apart = record {
  sign = sign;
  digits = m.digits;
  fraction = point_and m.decimals;
  whole = ap (λ xs. sign ++ xs) m.whole;
  is_sign = s;
  is_digits = is_whole m.digits m.are_digits m.some;
  is_fraction = is_fraction m.decimals m.are_decimals;
  ends = fraction_ends m.decimals rest apart;
}

all_unsigned : (bytes : List ℕ) → IsMagnitude bytes → list_all is_unsigned bytes ≡ true
all_unsigned bytes m =
    ap (list_all is_unsigned) m.whole
    ∙ both_pass is_unsigned m.digits (point_and m.decimals)
    (all_pass is_ascii_digit is_unsigned digit_unsigned m.digits m.are_digits)
    (fraction_unsigned m.decimals m.are_decimals)

unsigned_stands : (bytes rest : List ℕ) → IsMagnitude bytes → IsApart rest → Stands (number bytes) rest
unsigned_stands bytes rest m apart = (signed_number [] bytes rest tt m apart, no_date bytes rest (all_unsigned bytes m) apart)

minus_date : (bytes : List ℕ) → HasDate (45 ∷ bytes) → ⊥
minus_date bytes h =
    let f = date_front (45 ∷ bytes) h in
    let first : 45 ≡ f.a = cc (f.whole) in
    let digit : is_ascii_digit 45 ≡ true = ap is_ascii_digit first ∙ f.a_digit in
    cc

minus_stands : (bytes rest : List ℕ) → IsMagnitude bytes → IsApart rest → Stands (number (45 ∷ bytes)) rest
minus_stands bytes rest m apart = (signed_number (45 ∷ []) bytes rest refl m apart, minus_date (bytes ++ rest))

unsigned_printed : (b : ℕ) → is_unsigned b ≡ true → is_printed b ≡ true
unsigned_printed b e = grind (arith, nat_tests)

all_printed : (bytes : List ℕ) → IsMagnitude bytes → list_all is_printed bytes ≡ true
all_printed bytes m = all_pass is_unsigned is_printed unsigned_printed bytes (all_unsigned bytes m)

length_magnitude : (bytes : List ℕ) → IsMagnitude bytes → length bytes ≤ 19
length_magnitude bytes m =
    omega (arith, ap length m.whole, length-append m.digits (point_and m.decimals), m.short, fraction_short 8 m.decimals m.few)

-- ---- Units, totals and rates.

pub units_stand : (units : ℤ) (rest : List ℕ) → IsUnits units → IsApart rest → Stands (number (units_text units)) rest
unfolding amount_text
units_stand (pos n) rest below apart = unsigned_stands (magnitude_text 0 8 n) rest (magnitude n below) apart
units_stand (negsuc n) rest below apart = minus_stands (magnitude_text 0 8 (suc n)) rest (magnitude (suc n) below) apart

pub units_piece : (units : ℤ) → IsUnits units → IsPiece longest_number (units_text units)
unfolding amount_text
units_piece (pos n) below =
    let m = magnitude n below in
    printed longest_number (magnitude_text 0 8 n) (all_printed _ m) (omega (arith, length_magnitude _ m))
units_piece (negsuc n) below =
    let m = magnitude (suc n) below in
    printed longest_number (45 ∷ magnitude_text 0 8 (suc n)) (and_from _ _ refl (all_printed _ m)) (omega (arith, length_magnitude _ m))

pub rate_stands : (rate : ℕ) (rest : List ℕ) → IsRate rate → IsApart rest → Stands (number (rate_text rate)) rest
rate_stands rate rest below apart = units_stand (pos rate) rest (omega arith) apart

pub rate_piece : (rate : ℕ) → IsRate rate → IsPiece longest_number (rate_text rate)
rate_piece rate below = units_piece (pos rate) (omega arith)

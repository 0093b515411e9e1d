-- What is printed of an amount is a number text that says it.
use Rattle.std.proofs.Common.{◌≡◌, inl, inr, ℕ, suc, ◌+◌, ◌*◌, ◌/◌, ◌%◌, ◌^◌, ◌<◌, ◌≤◌, Bool, true, false, not, List, [], ◌∷◌, ◌++◌, length, filter, refl, ap, ◌∙◌, arith, leb, nat_eq, ℤ, pos, negsuc, Result, Ok, Err}
use Rattle.std.specs.Char.{is_ascii_digit}
use Rattle.std.specs.Fmt.{decimal}
use Rattle.std.specs.List.{list_any}
use Rattle.std.specs.Prelude.{if◌then◌else◌}
use Rattle.std.specs.Str.Parse.{digits_value}
use Rattle.std.proofs.lemmas.Bool.Decides.{nat_tests}
use Rattle.std.proofs.lemmas.Fmt.{decimal_nonempty}
use Rattle.std.proofs.Math.ListN.{drop_of_length-le}
use Rattle.lot_num.specs.declared.number_text.NumberFault.{NumberFault}
use Rattle.lot_num.specs.declared.number_text.NumberFault.TheVariants.{Syntax, TooManyDecimals, TooLarge}
use Rattle.lot_num.specs.declared.number_text.Sign.{Sign}
use Rattle.lot_num.specs.declared.number_text.Sign.TheVariants.{Plus, Minus}
use Rattle.lot_num.specs.Amount.{one, IsUnits, IsRate, units_limit, rate_limit}
use Rattle.lot_num.specs.AmountText.{shown_decimals, point_and, magnitude_text, amount_text}
use Rattle.lot_num.specs.NumberGrammar.{AreDigits, IsWhole, IsSign, IsFraction, IsNumberText}
use Rattle.lot_num.specs.NumberText.{sign_of, decimals, is_number, whole_number, first_decimals, has_excess, magnitude, read_below, with_sign, with_no_sign, units_of, rate_of}
use Rattle.lot_num.proofs.GrammarLemmas.{test_from_digit, spelling_is_cut}
use Rattle.lot_num.proofs.DecimalLemmas.{decimal_digits, decimal_value, shown_decimals_shown, first_decimals-short}

digits_are_whole : (ds : List ℕ) → AreDigits ds → 0 < length ds → IsWhole ds
digits_are_whole [] h some = absurd (omega arith)
digits_are_whole (d ∷ []) h some = h.0
digits_are_whole (d ∷ c ∷ rest) h some = (h.0, inl (digits_are_whole (c ∷ rest) h.1 (omega arith)))

filter-digits : (ds : List ℕ) → AreDigits ds → filter is_ascii_digit ds ≡ ds
filter-digits [] h = refl
filter-digits (d ∷ ds) h = rw (test_from_digit d h.0) (ap (λ rest. d ∷ rest) (filter-digits ds h.1))

point_is_fraction : (ds : List ℕ) → IsFraction ds (point_and ds)
point_is_fraction [] = inr (refl, refl)
point_is_fraction (d ∷ ds) = inl refl

pub no_excess : (ds : List ℕ) → length ds ≤ 8 → has_excess ds ≡ false
no_excess ds short = ap (list_any (λ d. not (nat_eq d 48))) (drop_of_length-le ds short)

pub whole_number-decimal : (n : ℕ) → n < 2 ^ 64 → whole_number (decimal n) ≡ n
whole_number-decimal n small = ap (digits_value 10) (filter-digits (decimal n) (decimal_digits n small)) ∙ decimal_value n small

-- the tests of reading, where none refuses
chosen : (number excess over : Bool) (read : Result (Sign × ℕ) NumberFault) → number ≡ true → excess ≡ false → over ≡ false → (if not number then Err Syntax else (if excess then Err TooManyDecimals else (if over then Err TooLarge else read))) ≡ read
chosen number excess over read good none below = rw (good, none, below)

pub read_below-spelled : (limit n : ℕ) (text : List ℕ) (sign : Sign) (whole fraction : List ℕ) → IsNumberText text sign whole fraction → length fraction ≤ 8 → whole_number whole * one + first_decimals fraction ≡ n → n < limit → read_below limit text ≡ Ok (sign, n)
read_below-spelled limit n text sign whole fraction spelling short says below =
    let cut = spelling_is_cut text sign whole fraction spelling in
    let none : has_excess (decimals text) ≡ false = ap has_excess cut.3 ∙ no_excess fraction short in
    let amount : magnitude text ≡ n = ap (λ ds. whole_number ds * one + first_decimals (decimals text)) cut.2 ∙ ap (λ ds. whole_number whole * one + first_decimals ds) cut.3 ∙ says in
    let under : leb limit (magnitude text) ≡ false = grind (arith, nat_tests) in
    chosen (is_number text) (has_excess (decimals text)) (leb limit (magnitude text)) (Ok (sign_of text, magnitude text)) cut.0 none under
    ∙ ap (λ s. Ok (s, magnitude text)) cut.1
    ∙ ap (λ m. Ok (sign, m)) amount

-- a magnitude behind a sign
pub spelled_behind : (prefix : List ℕ) (sign : Sign) (least n : ℕ) → IsSign sign prefix → n < units_limit → IsNumberText (prefix ++ magnitude_text least 8 n) sign (decimal (n / 10 ^ 8)) (shown_decimals least 8 (n % 10 ^ 8))
spelled_behind prefix sign least n is_sign below =
    let small : n / 10 ^ 8 < 2 ^ 64 = omega arith in
    let shown = shown_decimals_shown least 8 (n % 10 ^ 8) (omega arith) (omega arith) in
    record {
      prefix = prefix;
      back = point_and (shown_decimals least 8 (n % 10 ^ 8));
      is_sign = is_sign;
      is_whole = digits_are_whole (decimal (n / 10 ^ 8)) (decimal_digits (n / 10 ^ 8) small) (decimal_nonempty (n / 10 ^ 8) small);
      is_fraction = point_is_fraction (shown_decimals least 8 (n % 10 ^ 8));
      are_digits = shown.digits;
      spelled = refl;
    }

pub magnitude_says : (least n : ℕ) → n < units_limit → whole_number (decimal (n / 10 ^ 8)) * one + first_decimals (shown_decimals least 8 (n % 10 ^ 8)) ≡ n
magnitude_says least n below =
    let shown = shown_decimals_shown least 8 (n % 10 ^ 8) (omega arith) (omega arith) in
    let fraction : first_decimals (shown_decimals least 8 (n % 10 ^ 8)) ≡ n % 10 ^ 8 = first_decimals-short (shown_decimals least 8 (n % 10 ^ 8)) shown.short ∙ shown.value in
    omega (arith, whole_number-decimal (n / 10 ^ 8) (omega arith))

read_printed : (limit : ℕ) (prefix : List ℕ) (sign : Sign) (least n : ℕ) → IsSign sign prefix → limit ≤ units_limit → n < limit → read_below limit (prefix ++ magnitude_text least 8 n) ≡ Ok (sign, n)
read_printed limit prefix sign least n is_sign most below =
    let low : n < units_limit = omega arith in
    let shown = shown_decimals_shown least 8 (n % 10 ^ 8) (omega arith) (omega arith) in
    read_below-spelled limit n (prefix ++ magnitude_text least 8 n) sign (decimal (n / 10 ^ 8)) (shown_decimals least 8 (n % 10 ^ 8)) (spelled_behind prefix sign least n is_sign low) shown.short (magnitude_says least n low) below

pub units_of-amount_text : (least : ℕ) (z : ℤ) → IsUnits z → units_of (amount_text least 8 z) ≡ Ok z
unfolding amount_text
units_of-amount_text least (pos n) below = ap with_sign (read_printed units_limit [] Plus least n (inl refl) (omega arith) below)
units_of-amount_text least (negsuc n) below = ap with_sign (read_printed units_limit (45 ∷ []) Minus least (suc n) refl (omega arith) below)

pub rate_of-amount_text : (n : ℕ) → IsRate n → rate_of (amount_text 0 8 (pos n)) ≡ Ok n
unfolding amount_text
rate_of-amount_text n below = ap with_no_sign (read_printed rate_limit [] Plus 0 n (inl refl) (omega arith) below)

-- What is written, step by step, is the text of the definition.
use Rattle.std.proofs.Common.{◌≡◌, ◌≢◌, ℕ, zero, suc, ◌-◌, ◌/◌, ◌%◌, ◌^◌, ◌<◌, ◌≤◌, false, List, [], ◌∷◌, ◌++◌, length, replicate, refl, ap, ◌∙◌, sym, rules, arith, eqb, length-append, ℤ, pos, negsuc, ◌<ℤ◌, ◌≤ℤ◌, unsigned_abs}
use Rattle.std.specs.Fmt.{decimal, padded_integral, format_spec, styled_decimal, char_count}
use Rattle.std.proofs.lemmas.Bool.Decides.{nat_tests}
use Rattle.std.proofs.lemmas.Fmt.{decimal_nonempty}
use Rattle.std.proofs.lemmas.Int.{ints}
use Rattle.lot_num.specs.AmountText.{zero_padded, all_decimals, shown_decimals, point_and, magnitude_text, amount_text}

-- a zero at the end is taken off while more than the least are shown
pub shown-turn : (least places digits : ℕ) → least < places → digits % 10 ≡ 0 → shown_decimals least (places - 1) (digits / 10) ≡ shown_decimals least places digits
unfolding shown_decimals
shown-turn least zero digits more ends = absurd (omega arith)
shown-turn least (suc k) digits more ends =
    let less : suc k - 1 ≡ k = omega arith in
    rw less (grind (arith, nat_tests))

-- and then all that are left are shown
pub shown-least : (least places digits : ℕ) → places ≤ least → all_decimals places digits ≡ shown_decimals least places digits
unfolding shown_decimals
shown-least least zero digits few = refl
shown-least least (suc k) digits few = grind (arith, nat_tests)

pub shown-nonzero : (least places digits : ℕ) → digits % 10 ≢ 0 → all_decimals places digits ≡ shown_decimals least places digits
unfolding shown_decimals
shown-nonzero least zero digits ends = refl
shown-nonzero least (suc k) digits ends = grind (arith, nat_tests)

-- a number under a width and a `0` is padded with zeros
padded_by_width : (width : ℕ) (numeral : List ℕ) → padded_integral (format_spec 32 0 4 width (2 ^ 64 - 1)) false [] numeral ≡ replicate (width - length numeral) 48 ++ numeral
unfolding padded_integral char_count
padded_by_width width numeral =
    let short : width - length numeral - 0 - 0 ≡ width - length numeral = omega arith in
    let whole : numeral ++ [] ≡ numeral = search rules in
    rw (short, whole)

styled_by_width : (width n : ℕ) → 0 < width → styled_decimal (format_spec 32 0 4 width (2 ^ 64 - 1)) n ≡ zero_padded width n
styled_by_width width n some =
    let wide : eqb width 0 ≡ false = grind (arith, nat_tests) in
    rw wide (padded_by_width width (decimal n))

point_and-nonempty : (ds : List ℕ) → 0 < length ds → point_and ds ≡ 46 ∷ ds
point_and-nonempty [] some = absurd (omega arith)
point_and-nonempty (d ∷ ds) some = refl

zero_padded-nonempty : (places n : ℕ) → n < 2 ^ 64 → 0 < length (zero_padded places n)
zero_padded-nonempty places n fits = omega (arith, length-append (replicate (places - length (decimal n)) 48) (decimal n), decimal_nonempty n fits)

pub point_and-styled : (places digits : ℕ) → 0 < places → digits < 2 ^ 64 → 46 ∷ styled_decimal (format_spec 32 0 4 places (2 ^ 64 - 1)) digits ≡ point_and (all_decimals places digits)
point_and-styled zero digits some fits = absurd (omega arith)
point_and-styled (suc k) digits some fits =
    ap (λ ds. 46 ∷ ds) (styled_by_width (suc k) digits some)
    ∙ sym (point_and-nonempty (zero_padded (suc k) digits) (zero_padded-nonempty (suc k) digits fits))

pub amount_text-positive : (least scale : ℕ) (z : ℤ) (text prefix : List ℕ) (magnitude : ℕ) → pos 0 ≤ℤ z → magnitude ≡ unsigned_abs z → prefix ≡ [] → text ≡ prefix ++ magnitude_text least scale magnitude → text ≡ amount_text least scale z
unfolding amount_text
amount_text-positive least scale (pos n) text prefix magnitude low is none all = rw (all, none, is)
amount_text-positive least scale (negsuc n) text prefix magnitude low is none all = absurd (omega (arith, ints))

pub amount_text-negative : (least scale : ℕ) (z : ℤ) (text prefix : List ℕ) (magnitude : ℕ) → z <ℤ pos 0 → magnitude ≡ unsigned_abs z → prefix ≡ 45 ∷ [] → text ≡ prefix ++ magnitude_text least scale magnitude → text ≡ amount_text least scale z
unfolding amount_text
amount_text-negative least scale (pos n) text prefix magnitude low is minus all = absurd (omega (arith, ints))
amount_text-negative least scale (negsuc n) text prefix magnitude low is minus all = rw (all, minus, is)

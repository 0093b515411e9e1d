-- Number text: which texts are numbers, and what each says (docs/RULES.md, Number text).
use Rattle.std.specs.Prelude.{ℕ, ◌+◌, ◌*◌, ◌==◌, Bool, not, ◌&&◌, ◌||◌, nat_le, if◌then◌else◌, List, [], ◌∷◌, ◌++◌, length, take, drop, replicate, filter, ℤ, pos, neg_ℤ, Result, Ok, Err}
use Rattle.std.specs.List.{before_first, after_first, slice_split, list_all, list_any}
use Rattle.std.specs.Char.{is_ascii_digit}
use Rattle.std.specs.Str.Parse.{digits_value}
use Rattle.lot_num.specs.declared.number_text.NumberFault.{NumberFault}
use Rattle.lot_num.specs.declared.number_text.NumberFault.TheVariants.{Syntax, TooManyDecimals, TooLarge, Negative}
use Rattle.lot_num.specs.declared.number_text.Sign.{Sign}
use Rattle.lot_num.specs.declared.number_text.Sign.TheVariants.{Plus, Minus}
use Rattle.lot_num.specs.Amount.{one, units_limit, rate_limit}

-- ---- The parts of a text: a sign, the whole part, and behind the first point the decimals.

abbrev pub sign_of : List ℕ → Sign
sign_of [] = Plus
sign_of (b ∷ rest) = if b == 45 then Minus else Plus

abbrev pub unsigned : List ℕ → List ℕ
unsigned [] = []
unsigned (b ∷ rest) = if b == 45 || b == 43 then rest else b ∷ rest

abbrev pub is_point : ℕ → Bool
is_point b = b == 46

abbrev pub whole_part : List ℕ → List ℕ
whole_part text = before_first is_point (unsigned text)

abbrev pub decimals : List ℕ → List ℕ
decimals text = after_first is_point (unsigned text)

-- ---- Which texts are numbers.

abbrev pub is_digits : List ℕ → Bool
is_digits text = list_all is_ascii_digit text

-- one digit or more
abbrev pub is_group : List ℕ → Bool
is_group text = not (length text == 0) && is_digits text

-- Groups of digits between commas: so a comma stands only between two digits.
abbrev pub is_grouped : List ℕ → Bool
is_grouped whole = list_all is_group (slice_split (λ b. b == 44) whole)

abbrev pub is_number : List ℕ → Bool
is_number text = is_grouped (whole_part text) && is_digits (decimals text)

-- ---- What a number text says.

-- the number that the digits of a whole part write, its commas skipped
abbrev pub whole_number : List ℕ → ℕ
whole_number whole = digits_value 10 (filter is_ascii_digit whole)

-- the number that the first eight decimals write, padded with zeros
abbrev pub first_decimals : List ℕ → ℕ
first_decimals digits = digits_value 10 (take 8 (digits ++ replicate 8 48))

-- a decimal past the eighth isn't zero
abbrev pub has_excess : List ℕ → Bool
has_excess digits = list_any (λ d. not (d == 48)) (drop 8 digits)

-- the absolute mantissa, at scale 8
abbrev pub magnitude : List ℕ → ℕ
magnitude text = whole_number (whole_part text) * one + first_decimals (decimals text)

-- ---- What is read: the sign and the absolute mantissa, or the first refusal that holds.

abbrev pub read_below : ℕ → List ℕ → Result (Sign × ℕ) NumberFault
read_below limit text =
    if not (is_number text) then Err Syntax
    else (if has_excess (decimals text) then Err TooManyDecimals
    else (if nat_le limit (magnitude text) then Err TooLarge
    else Ok (sign_of text, magnitude text)))

-- a magnitude with its sign
abbrev pub signed : Sign → ℕ → ℤ
signed Plus n = pos n
signed Minus n = neg_ℤ (pos n)

abbrev pub with_sign : Result (Sign × ℕ) NumberFault → Result ℤ NumberFault
with_sign (Ok x) = Ok (signed x.0 x.1)
with_sign (Err fault) = Err fault

-- a magnitude that may not be below zero, where minus zero is zero
abbrev pub non_negative : Sign → ℕ → Result ℕ NumberFault
non_negative Plus n = Ok n
non_negative Minus n = if n == 0 then Ok n else Err Negative

abbrev pub with_no_sign : Result (Sign × ℕ) NumberFault → Result ℕ NumberFault
with_no_sign (Ok x) = non_negative x.0 x.1
with_no_sign (Err fault) = Err fault

-- units: the absolute mantissa is below the limit of units
abbrev pub units_of : List ℕ → Result ℤ NumberFault
units_of text = with_sign (read_below units_limit text)

-- a mantissa that isn't below zero, as units
abbrev pub as_units : Result ℕ NumberFault → Result ℤ NumberFault
as_units (Ok n) = Ok (pos n)
as_units (Err fault) = Err fault

-- a total: the mantissa is below the limit of units, and not below zero
abbrev pub total_of : List ℕ → Result ℤ NumberFault
total_of text = as_units (with_no_sign (read_below units_limit text))

-- a rate: the mantissa is below the limit of rates, and not below zero
abbrev pub rate_of : List ℕ → Result ℕ NumberFault
rate_of text = with_no_sign (read_below rate_limit text)

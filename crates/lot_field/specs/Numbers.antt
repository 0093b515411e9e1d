-- Numbers in the form that a profile names: which texts are numbers, and what each says (docs/FORMATS.md, Profiles).
use Rattle.std.specs.Prelude.{◌≡◌, ◌≢◌, ℕ, ◌-◌, ◌*◌, ◌%◌, ◌^◌, ◌<◌, Bool, false, not, ◌==◌, ◌&&◌, ◌||◌, if◌then◌else◌, IsTrue, List, [], ◌∷◌, ◌++◌, length, take, drop, max, filter, slice_index, Option, Some, None, option_and_then, ℤ, pos, neg_ℤ}
use Rattle.std.specs.Char.{is_ascii_digit}
use Rattle.std.specs.List.{after_first, before_first, ends_with, list_all, starts_with}
use Rattle.std.specs.Str.Parse.{digits_value}
use Rattle.lot_base.specs.Text.{same_text}
use Rattle.lot_num.specs.Amount.{one, units_limit}
use Rattle.lot_rounding.specs.Nearest.{IsNearest}
use Rattle.lot_field.specs.Field.{before, behind, cut, without_leading, without_trailing}
use Rattle.lot_field.specs.declared.numbers.DecimalMark.{DecimalMark}
use Rattle.lot_field.specs.declared.numbers.DecimalMark.TheVariants.{Point, Comma}
use Rattle.lot_field.specs.declared.numbers.Exactness.{Exactness}
use Rattle.lot_field.specs.declared.numbers.Exactness.TheVariants.{Exact, Rounded}
use Rattle.lot_field.specs.declared.numbers.Number.{Number}
use Rattle.lot_field.specs.declared.numbers.NumberForm.{NumberForm}
use Rattle.lot_field.specs.declared.numbers.Sign.{Sign}
use Rattle.lot_field.specs.declared.numbers.Sign.TheVariants.{Plus, Minus}

-- ---- The sign, and the signs of currencies that are read over.

-- whether a text begins with a sign
abbrev pub is_signed : List ℕ → Bool
is_signed text = (slice_index text 0 == 43) || (slice_index text 0 == 45)

-- the sign at the start of a text; a plus may be left out
abbrev pub sign_of : List ℕ → Sign
sign_of text = if slice_index text 0 == 45 then Minus else Plus

-- a text without the sign at its start
abbrev pub unsigned : List ℕ → List ℕ
unsigned text = if is_signed text then without_leading (drop 1 text) else text

-- the length of the longest of the currencies' signs that a text begins with, or ends with; 0 where it has none there
abbrev pub longest_at : (List ℕ → List ℕ → Bool) → List (List ℕ) → List ℕ → ℕ
longest_at is_there [] text = 0
longest_at is_there (sign ∷ signs) text = max (if is_there text sign then length sign else 0) (longest_at is_there signs text)

-- a text without the longest of the currencies' signs that it begins with
abbrev pub past_sign : List (List ℕ) → List ℕ → List ℕ
past_sign signs text = drop (longest_at (starts_with ◌==◌) signs text) text

-- a text without the longest of the currencies' signs that it ends with
abbrev pub ahead_of_sign : List (List ℕ) → List ℕ → List ℕ
ahead_of_sign signs text = take (length text - longest_at (ends_with ◌==◌) signs text) text

-- a magnitude, where the currency's sign at the start, or at the end, is read over, and blanks beside it
abbrev pub past_front : List (List ℕ) → List ℕ → List ℕ
past_front signs text = without_leading (past_sign signs text)

abbrev pub ahead_of_back : List (List ℕ) → List ℕ → List ℕ
ahead_of_back signs text = without_trailing (ahead_of_sign signs text)

-- what stands in parentheses
abbrev pub in_parentheses : List ℕ → Option (List ℕ)
in_parentheses text = option_and_then (before (41 ∷ [])) (behind (40 ∷ []) text)

-- the sign and the magnitude of a text that isn't in parentheses: one sign, before the currency's or behind it
abbrev pub plainly_signed : List (List ℕ) → List ℕ → Sign × List ℕ
plainly_signed signs text =
    if is_signed text then (sign_of text, ahead_of_back signs (past_front signs (unsigned text)))
    else (sign_of (past_front signs text), ahead_of_back signs (unsigned (past_front signs text)))

-- the sign and the magnitude of a text; what is in parentheses is below zero, and has no sign
abbrev pub signed : List (List ℕ) → List ℕ → Option (List ℕ) → Sign × List ℕ
signed signs text (Some inner) = (Minus, ahead_of_back signs (past_front signs (cut inner)))
signed signs text None = plainly_signed signs text

-- the sign and the magnitude of a field
abbrev pub sign_and_magnitude : List (List ℕ) → List ℕ → Sign × List ℕ
sign_and_magnitude signs field = signed signs (cut field) (in_parentheses (cut field))

-- ---- Magnitudes: a whole part, and perhaps a mark and decimals.

abbrev pub mark_of : DecimalMark → ℕ
mark_of Point = 46
mark_of Comma = 44

abbrev pub is_mark : DecimalMark → ℕ → Bool
is_mark mark byte = byte == mark_of mark

abbrev pub whole_part : DecimalMark → List ℕ → List ℕ
whole_part mark magnitude = before_first (is_mark mark) magnitude

abbrev pub decimals : DecimalMark → List ℕ → List ℕ
decimals mark magnitude = after_first (is_mark mark) magnitude

abbrev pub are_digits : List ℕ → Bool
are_digits text = list_all is_ascii_digit text

-- the digits of a text, without what stands between them
abbrev pub digits_of : List ℕ → List ℕ
digits_of text = filter is_ascii_digit text

-- a separator, where a whole number of groups of three digits is left
abbrev pub separator : List ℕ → ℕ → List ℕ
separator grouping left = if (left % 3 == 0) && not (left == 0) then grouping else []

-- digits as they are written in groups of three, behind a first group of one to three
abbrev pub grouped : List ℕ → List ℕ → List ℕ
grouped grouping [] = []
grouped grouping (digit ∷ digits) = digit ∷ (separator grouping (length digits) ++ grouped grouping digits)

-- whether a whole part is its digits in groups
abbrev pub is_grouped : Option (List ℕ) → List ℕ → Bool
is_grouped None whole = false
is_grouped (Some grouping) whole = same_text whole (grouped grouping (digits_of whole))

-- whether it is a whole part: digits, in groups or not
abbrev pub is_whole : Option (List ℕ) → List ℕ → Bool
is_whole grouping whole = are_digits whole || is_grouped grouping whole

-- whether the last byte of a text is a digit
abbrev pub ends_in_digit : List ℕ → Bool
ends_in_digit text = is_ascii_digit (slice_index text (length text - 1))

-- whether a text is a magnitude: behind a mark stands a digit or more, and without a mark the whole part isn't empty
abbrev pub is_magnitude : DecimalMark → Option (List ℕ) → List ℕ → Bool
is_magnitude mark grouping text =
    is_whole grouping (whole_part mark text) && are_digits (decimals mark text) && ends_in_digit text

-- ---- What a magnitude says.

-- the number that all its digits write: the magnitude is this number, with the mark before its last places
abbrev pub number_of_digits : DecimalMark → List ℕ → ℕ
number_of_digits mark text = digits_value 10 (digits_of (whole_part mark text) ++ decimals mark text)

-- how many decimals it has
abbrev pub places : DecimalMark → List ℕ → ℕ
places mark text = length (decimals mark text)

-- a mantissa, at scale 8, is exactly a number with so many decimals, or isn't
abbrev pub IsExactly : Exactness → ℕ → ℕ → ℕ → Type 0
IsExactly Exact number places mantissa = number * one ≡ mantissa * 10 ^ places
IsExactly Rounded number places mantissa = number * one ≢ mantissa * 10 ^ places

-- it is that number's at scale 8: of more than eight decimals the nearest, of two equally near the even one
pub record IsMantissa (number places mantissa : ℕ) (exactness : Exactness) : Type 0 where
  pub nearest : IsNearest (pos (number * one)) (10 ^ places) (pos mantissa)
  pub exactly : IsExactly exactness number places mantissa

-- a mantissa with its sign
abbrev pub with_sign : Sign → ℕ → ℤ
with_sign Plus mantissa = pos mantissa
with_sign Minus mantissa = neg_ℤ (pos mantissa)

-- ---- What a field says.

-- a magnitude with a sign says the number
pub record SaysMagnitude (mark : DecimalMark) (grouping : Option (List ℕ)) (sign : Sign) (text : List ℕ) (number : Number) : Type 0 where
  pub mantissa : ℕ
  pub is_magnitude : IsTrue (is_magnitude mark grouping text)
  pub reads : IsMantissa (number_of_digits mark text) (places mark text) mantissa number.exactness
  pub in_range : mantissa < units_limit
  pub units : number.units ≡ with_sign sign mantissa

-- the field says the number
abbrev pub SaysNumber : NumberForm → List ℕ → Number → Type 0
SaysNumber form field number =
    SaysMagnitude form.decimal form.grouping (sign_and_magnitude form.signs field).0 (sign_and_magnitude form.signs field).1 number

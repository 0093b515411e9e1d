-- The numbers that a row says for a role (docs/FORMATS.md, Profiles).
use Rattle.std.specs.Prelude.{ℕ, ◌+◌, ◌*◌, ◌/◌, ◌%◌, ◌^◌, ◌-◌, Bool, true, false, ◌==◌, ◌&&◌, ◌||◌, nat_lt, if◌then◌else◌, List, [], ◌∷◌, min, sum_by, count_by, Option, Some, None, Ok, Err, ℤ, pos, negsuc, neg_ℤ, ◌+ℤ◌, unsigned_abs}
use Rattle.std.specs.Option.{option_map_or}
use Rattle.lot_num.specs.Amount.{one, rate_limit, units_limit}
use Rattle.lot_field.specs.Numbers.{is_magnitude, number_of_digits, places, sign_and_magnitude, with_sign}
use Rattle.lot_field.specs.declared.numbers.DecimalMark.{DecimalMark}
use Rattle.lot_field.specs.declared.numbers.Exactness.{Exactness}
use Rattle.lot_field.specs.declared.numbers.Exactness.TheVariants.{Exact, Rounded}
use Rattle.lot_field.specs.declared.numbers.Number.{Number}
use Rattle.lot_field.specs.declared.numbers.NumberForm.{NumberForm}
use Rattle.lot_profile.specs.declared.file.FileForm.{FileForm}
use Rattle.lot_profile.specs.declared.role.Role.{Role}
use Rattle.lot_profile.specs.declared.role.Source.{Source}
use Rattle.lot_sheet.specs.Sheet.{SheetRow}
use Rattle.lot_roles.specs.Parts.{part_of, parts_of}
use Rattle.lot_roles.specs.Reading.{Read, ◌>>=◌, if_any, or_fault}
use Rattle.lot_roles.specs.Rules.{is_turned, sources_of}
use Rattle.lot_roles.specs.declared.fault.RowFault.TheVariants.{BelowZero, NotNumber, TooLarge, TooManyDecimals}
use Rattle.lot_roles.specs.declared.numbers.Decimals.{Decimals}
use Rattle.lot_roles.specs.declared.numbers.Decimals.TheVariants as decimals
use Rattle.lot_roles.specs.declared.rules.Rules.{Rules}

-- ---- The number that a text says.

-- whether what is left of so many parts of a unit makes a mantissa one greater: more than half, or half of an odd one
abbrev pub rounds_up : ℕ → ℕ → ℕ → Bool
rounds_up mantissa left parts = nat_lt parts (2 * left) || ((2 * left == parts) && (mantissa % 2 == 1))

-- a number divided, to the nearest whole number; of two equally near to the even one
abbrev pub half_even : ℕ → ℕ → ℕ
half_even number parts = number / parts + (if rounds_up (number / parts) (number % parts) parts then 1 else 0)

-- the mantissa, at scale 8, of a number with so many decimals
abbrev pub mantissa_of : ℕ → ℕ → ℕ
mantissa_of number places = half_even (number * one) (10 ^ places)

-- whether that is the number, or is rounded
abbrev pub exactness_of : ℕ → ℕ → Exactness
exactness_of number places = if number * one % 10 ^ places == 0 then Exact else Rounded

-- a mantissa with a sign as a number, where it is in the range of units
abbrev pub in_range : (ℕ → ℤ) → ℕ → Exactness → Option Number
in_range signed mantissa exactness =
    if nat_lt mantissa units_limit then Some (record { units = signed mantissa; exactness = exactness }) else None

-- the number of a magnitude
abbrev pub magnitude_number : DecimalMark → Option (List ℕ) → (ℕ → ℤ) → List ℕ → Option Number
magnitude_number mark grouping signed text =
    if is_magnitude mark grouping text
    then in_range signed (mantissa_of (number_of_digits mark text) (places mark text)) (exactness_of (number_of_digits mark text) (places mark text))
    else None

-- the number that a text says, if it says one: no other number has `SaysNumber`
unfoldable pub number_of : NumberForm → List ℕ → Option Number
number_of form text =
    magnitude_number form.decimal form.grouping (with_sign (sign_and_magnitude form.signs text).0) (sign_and_magnitude form.signs text).1

-- ---- The sum of the parts of a role.

-- the units of a number: with more than eight decimals it is rounded to eight, or is a fault
abbrev pub units_with : Decimals → Role → Exactness → ℤ → Read ℤ
units_with decimals.Rounded role exactness units = Ok units
units_with decimals.Refused role Exact units = Ok units
units_with decimals.Refused role Rounded units = Err (TooManyDecimals role)

-- what a part says
abbrev pub part_units : NumberForm → Decimals → Role → List ℕ → Read ℤ
part_units form decimals role part =
    or_fault (NotNumber role) (number_of form part) >>= λ (number : Number). units_with decimals role number.exactness number.units

-- what each part says, in their order, or the first fault
abbrev pub each_part : NumberForm → Decimals → Role → List (List ℕ) → Read (List ℤ)
each_part form decimals role [] = Ok []
each_part form decimals role (part ∷ parts) =
    part_units form decimals role part >>= λ units. each_part form decimals role parts >>= λ others. Ok (units ∷ others)

-- the sum of units, which may be out of their range
abbrev pub sum_of : List ℤ → ℤ
sum_of [] = pos 0
sum_of (units ∷ others) = units +ℤ sum_of others

-- the same of parts, if there are any
abbrev pub total : List ℤ → Option ℤ
total [] = None
total (units ∷ others) = Some (sum_of (units ∷ others))

-- what parts come to
unfoldable pub total_of : NumberForm → Decimals → Role → List (List ℕ) → Read (Option ℤ)
total_of form decimals role parts = each_part form decimals role parts >>= λ all. Ok (total all)

-- a sum, where it is in the range of units
abbrev pub in_units : Role → ℤ → Read ℤ
in_units role sum = if nat_lt (unsigned_abs sum) units_limit then Ok sum else Err (TooLarge role)

-- a sum, with the other sign where the role's is printed the other way
abbrev pub turned : Rules → Role → ℤ → ℤ
turned rules role sum = if is_turned rules role then neg_ℤ sum else sum

-- the number that a row says for a role: the sum of its parts, turned
unfoldable pub units_of : Decimals → Rules → SheetRow → Role → Read (Option ℤ)
units_of decimals rules row role =
    total_of rules.profile.now.file.numbers decimals role (parts_of rules row role)
    >>= if_any (λ sum. in_units role sum >>= λ units. Ok (turned rules role units))

-- an amount: each part is rounded to eight decimals, half to even, as it is read
abbrev pub amount_of : Rules → SheetRow → Role → Read (Option ℤ)
amount_of rules row role = units_of decimals.Rounded rules row role

-- units: a ninth decimal that isn't zero is a fault
abbrev pub exact_units_of : Rules → SheetRow → Role → Read (Option ℤ)
exact_units_of rules row role = units_of decimals.Refused rules row role

-- units as a rate
abbrev pub as_rate : Role → ℤ → Read ℕ
as_rate role (pos mantissa) = if nat_lt mantissa rate_limit then Ok mantissa else Err (TooLarge role)
as_rate role (negsuc below) = Err (BelowZero role)

-- a rate: an amount that isn't below zero
abbrev pub rate_of : Rules → SheetRow → Role → Read (Option ℕ)
rate_of rules row role = amount_of rules row role >>= if_any (as_rate role)

-- ---- How many parts were rounded.

-- whether a number isn't all that its text said
abbrev pub is_rounding : Exactness → Bool
is_rounding Exact = false
is_rounding Rounded = true

-- whether a text is a number that is rounded
abbrev pub is_rounded : NumberForm → List ℕ → Bool
is_rounded form text = option_map_or (λ (number : Number). is_rounding number.exactness) (number_of form text) false

-- whether a source says such a part
abbrev pub says_rounded : FileForm → SheetRow → Source → Bool
says_rounded form row source = option_map_or (is_rounded form.numbers) (part_of form row source) false

-- how many parts of a role were
abbrev pub rounded_parts : Rules → SheetRow → Role → ℕ
rounded_parts rules row role = count_by (says_rounded rules.profile.now.file row) (sources_of rules role)

-- how many of several roles; as many as can be counted where there are more
abbrev pub rounded_in : Rules → SheetRow → List Role → ℕ
rounded_in rules row roles = min (sum_by (rounded_parts rules row) roles) (2 ^ 64 - 1)

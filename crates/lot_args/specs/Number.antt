-- The numbers that values of options are, of the values matched by `clap`.
use Rattle.std.specs.Prelude.{◌&&◌, ◌^◌, if◌then◌else◌, ℕ, Bool, List, length, nat_lt}
use Rattle.std.specs.Char.{digit_value}
use Rattle.std.specs.List.{list_all}
use Rattle.std.specs.Option.{option_map_or}
use Rattle.std.specs.Str.Parse.{digits_value, without_leading_plus}
use Rattle.clap.specs.Words.{Row, Text, one_of}

-- whether the digits are those of a number of 32 bits
abbrev pub is_number : Text → Bool
is_number digits = nat_lt 0 (length digits) && list_all (λ d. nat_lt (digit_value d) 10) digits && nat_lt (digits_value 10 digits) (2 ^ 32)

-- the number that a text is, as `u32` reads it: a plus sign may stand first; the other number where it is none
abbrev pub number_or : ℕ → Text → ℕ
number_or other text = let digits = without_leading_plus text in if is_number digits then digits_value 10 digits else other

-- the number that the value of an option is, and the other number where it isn't given
abbrev pub number_of : Text → ℕ → List Row → ℕ
number_of name other rows = option_map_or (number_or other) (one_of name rows) other

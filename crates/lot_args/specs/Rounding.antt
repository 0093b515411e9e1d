-- The rounding account of a call, of the values matched by `clap`.
use Rattle.std.specs.Prelude.{if◌then◌else◌, ℕ, ℤ, List, Option, Some, None, codes, int_le, nat_le, option_and_then, option_map, unwrap_or}
use Rattle.std.specs.Result.{result_ok}
use Rattle.clap.specs.Words.{Row, Text, first_of}
use Rattle.lot_num.specs.NumberText.{total_of}
use Rattle.lot_rounding.specs.Nearest.{most_decimals}
use Rattle.lot_rounding.specs.Rounding.{greatest_bound, half_a_cent}
use Rattle.lot_rounding.specs.declared.rounding.Rounding.{Rounding}
use Rattle.lot_args.specs.Number.{number_of}

-- ---- how large a crumb may be

-- a total that is at most the greatest bound
abbrev pub as_bound : ℤ → Option ℤ
as_bound total = if int_le total greatest_bound then Some total else None

-- the bound that a text names, as ledger text writes a total
abbrev pub named_bound : Text → Option ℤ
named_bound text = option_and_then as_bound (result_ok (total_of text))

-- the bound of a call, half a cent where none is given
abbrev pub within_of : List Row → ℤ
within_of rows = unwrap_or (option_and_then named_bound (first_of (codes "within") rows)) half_a_cent

-- ---- how many decimals there are

-- the number itself where units have so many decimals, and else as many as they have
abbrev pub decimals_at : ℕ → ℕ
decimals_at number = if nat_le number most_decimals then number else most_decimals

-- the decimals of a call, all where nothing is said
abbrev pub decimals_of : List Row → ℕ
decimals_of rows = decimals_at (number_of (codes "decimals") most_decimals rows)

-- ---- the account

-- an account with what goes with it
abbrev pub rounding_to : List Row → Text → Rounding
rounding_to rows account = record { account = account; within = within_of rows; decimals = decimals_of rows }

-- the account of a call, if it names one, with what goes with it
abbrev pub rounding_of : List Row → Option Rounding
rounding_of rows = option_map (rounding_to rows) (first_of (codes "rounding") rows)

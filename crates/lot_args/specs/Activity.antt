-- What a report of activity is asked for: the length of its periods, and its accounts.
use Rattle.std.specs.Prelude.{if◌then◌else◌, ◌||◌, ◌-◌, ◌==◌, Bool, List, length, take, Option, Some, None, codes, option_and_then, unwrap_or}
use Rattle.std.specs.List.{ends_with}
use Rattle.std.specs.Str.{bytes_eq}
use Rattle.clap.specs.Words.{Row, Text, first_of}
use Rattle.lot_base.specs.Name.{is_account, is_root}
use Rattle.lot_period.specs.declared.period.PeriodLength.{PeriodLength}
use Rattle.lot_period.specs.declared.period.PeriodLength.TheVariants.{Month, Quarter, Year}

-- ---- periods

-- the length of that name
abbrev pub length_named : Text → Option PeriodLength
length_named name =
    if bytes_eq name (codes "year") then Some Year
    else (if bytes_eq name (codes "quarter") then Some Quarter
    else (if bytes_eq name (codes "month") then Some Month else None))

-- that of the option, a year where it isn't given
abbrev pub length_of : List Row → PeriodLength
length_of rows = unwrap_or (option_and_then length_named (first_of (codes "by") rows)) Year

-- ---- accounts

-- whether the text stands before a colon in the name of some account: as the kind of accounts, or as an account
abbrev pub is_above_accounts : Text → Bool
is_above_accounts text = is_root text || is_account text

-- whether a text names an account, or with a colon at its end all accounts whose names begin with it
abbrev pub names_account : Text → Bool
names_account text =
    if ends_with ◌==◌ text (codes ":") then is_above_accounts (take (length text - 1) text) else is_account text

-- The values of options, and which of them are outside their rules.
use Rattle.std.specs.Prelude.{if◌then◌else◌, ◌||◌, ◌&&◌, ◌==◌, ℤ, Bool, true, false, not, is_some, List, [], ◌∷◌, ◌++◌, Option, Some, None, codes, find, option_and_then, unwrap_or}
use Rattle.std.specs.Str.{bytes_eq}
use Rattle.std.specs.List.{list_all}
use Rattle.std.specs.Option.{option_map_or}
use Rattle.clap.specs.Words.{Row, Text, all_of, first_of}
use Rattle.lot_base.specs.Day.{named_day}
use Rattle.lot_base.specs.Name.{is_account, is_commodity, is_label}
use Rattle.lot_args.specs.Activity.{length_named, names_account}
use Rattle.lot_args.specs.Batch.{is_batch}
use Rattle.lot_args.specs.From.{from_of}
use Rattle.lot_args.specs.Keys.{are_keys}
use Rattle.lot_args.specs.Rounding.{named_bound}
use Rattle.lot_without.specs.Value.{named}
use Rattle.lot_without.specs.declared.value.By.{By as ByWhat}
use Rattle.lot_without.specs.declared.value.By.TheVariants.{Key, Batch as ByBatch, Entries}
use Rattle.lot_args.specs.declared.fault.BadOption.{BadOption}
use Rattle.lot_args.specs.declared.fault.Needed.{Needed}
use Rattle.lot_args.specs.declared.fault.Needed.TheVariants.{Accounts, Book, BatchOrRow}
use Rattle.lot_args.specs.declared.fault.BadOption.TheVariants.{Show, KeepAccepted, Batch, PostBatch, RowOf, Ref, From, Invest, Cash, Fees, Gains, Except, Rounding, Within, Decimals, PostGains, Sales, Holdings, Account, Commodity, Day, AsOf, First, Last, By, Period, Format, Without, WithoutBatch, WithoutEntries}

-- ---- values

-- the value of an option, empty where there is none
abbrev pub value_of : Text → List Row → Text
value_of name rows = unwrap_or (first_of name rows) []

-- all values of an option, in the order in which they are given
abbrev pub values_of : Text → List Row → List Text
values_of name rows = unwrap_or (all_of name rows) []

-- the references of the rows that are left out
abbrev pub except_of : List Row → List Text
except_of = values_of (codes "except")

-- the day that the value of an option names, where it is given
abbrev pub day_of : Text → List Row → Option ℤ
day_of name rows = option_and_then named_day (first_of name rows)

-- ---- rules

-- the option without its dashes
abbrev pub name_of : BadOption → Text
name_of Show = codes "show"
name_of KeepAccepted = codes "keep-accepted"
name_of Batch = codes "batch"
name_of PostBatch = codes "batch"
name_of RowOf = codes "row-of"
name_of Ref = codes "ref"
name_of From = codes "from"
name_of Invest = codes "invest"
name_of Cash = codes "cash"
name_of Fees = codes "fees"
name_of Gains = codes "gains"
name_of Except = codes "except"
name_of Rounding = codes "rounding"
name_of Within = codes "within"
name_of Decimals = codes "decimals"
name_of PostGains = codes "gains"
name_of Sales = codes "sales"
name_of Holdings = codes "holdings"
name_of Account = codes "account"
name_of Commodity = codes "commodity"
name_of Day = codes "day"
name_of AsOf = codes "as-of"
name_of First = codes "first"
name_of Last = codes "last"
name_of By = codes "by"
name_of Period = codes "by"
name_of Format = codes "format"
name_of Without = codes "without"
name_of WithoutBatch = codes "without-batch"
name_of WithoutEntries = codes "without-entries"

-- whether the option is given
abbrev pub is_given : Text → List Row → Bool
is_given name rows = is_some (first_of name rows)

-- whether an option without a value is given
abbrev pub is_set : Text → List Row → Bool
is_set name rows = option_map_or (λ text. bytes_eq text (codes "true")) (first_of name rows) false

-- whether a command is posted for the row of a broker file
abbrev pub has_row : List Row → Bool
has_row = is_given (codes "row-of")

-- whether there is a rounding account
abbrev pub has_rounding : List Row → Bool
has_rounding = is_given (codes "rounding")

-- whether a profile says what the rows of a file are
abbrev pub has_profile : List Row → Bool
has_profile = is_given (codes "profile")

-- whether the ledger text of rows is shown, and no book is opened
abbrev pub is_shown : List Row → Bool
is_shown = is_set (codes "show")

-- whether an option is given of what is kept in a book
abbrev pub speaks_of_book : List Row → Bool
speaks_of_book rows =
    is_given (codes "book") rows || (is_given (codes "batch") rows || (is_given (codes "except") rows
    || (is_set (codes "keep-accepted") rows || (is_set (codes "all-or-none") rows || is_set (codes "dry-run") rows))))

-- whether the value of an account option is within its rule
abbrev pub has_account : Text → List Row → Bool
has_account name rows = is_account (value_of name rows)

-- whether an account option of an import is within its rule: beside a profile, which names the accounts, it isn't given
abbrev pub is_good_account : Text → List Row → Bool
is_good_account name rows = if has_profile rows then not (is_given name rows) else has_account name rows

-- whether that of a day option is, which need not be given
abbrev pub has_day : Text → List Row → Bool
has_day name rows = option_map_or (λ text. is_some (named_day text)) (first_of name rows) true

-- whether that of `--within` is, which need not be given
abbrev pub has_bound : List Row → Bool
has_bound rows = option_map_or (λ text. is_some (named_bound text)) (first_of (codes "within") rows) true

-- whether the text says how a report is written
abbrev pub is_format : Text → Bool
is_format text = bytes_eq text (codes "text") || bytes_eq text (codes "csv")

-- whether the text names entries of a dump
abbrev pub names_entries : ByWhat → Text → Bool
names_entries by text = is_some (named by text)

-- whether each value of the option does, which need not be given
abbrev pub all_name_entries : ByWhat → Text → List Row → Bool
all_name_entries by name rows = list_all (names_entries by) (values_of name rows)

-- whether an option that asks what is told of a dry run is within its rule: it is given with `--dry-run` alone
abbrev pub is_good_preview : Text → List Row → Bool
is_good_preview name rows = not (is_set name rows) || is_set (codes "dry-run") rows

-- whether the value of the option is within its rule: of a post for a row `--batch` isn't given and `--from` is 1; `--ref` is
-- given with `--row-of` alone, `--within` and `--decimals` with `--rounding` alone. `--show` and `--keep-accepted` are given with
-- `--profile` alone, `--show` without what is kept in a book, and `--keep-accepted` without `--all-or-none`. With `--profile`
-- there is no account and no rounding account, and `--from` is 1
abbrev pub is_good : List Row → BadOption → Bool
is_good rows Show = not (is_shown rows) || (has_profile rows && not (speaks_of_book rows))
is_good rows KeepAccepted = not (is_set (codes "keep-accepted") rows) || (has_profile rows && not (is_set (codes "all-or-none") rows))
is_good rows Batch = is_shown rows || is_batch (value_of (codes "batch") rows)
is_good rows PostBatch = if has_row rows then not (is_given (codes "batch") rows) else is_batch (value_of (codes "batch") rows)
is_good rows RowOf = not (has_row rows) || is_batch (value_of (codes "row-of") rows)
is_good rows Ref = if has_row rows then is_label (value_of (codes "ref") rows) else not (is_given (codes "ref") rows)
is_good rows From = not (has_row rows || has_profile rows) || (from_of rows == 1)
is_good rows Invest = is_good_account (codes "invest") rows
is_good rows Cash = is_good_account (codes "cash") rows
is_good rows Fees = is_good_account (codes "fees") rows
is_good rows Gains = is_good_account (codes "gains") rows
is_good rows Except = list_all is_label (except_of rows)
is_good rows Rounding = not (has_rounding rows) || (not (has_profile rows) && has_account (codes "rounding") rows)
is_good rows Within = if has_rounding rows then has_bound rows else not (is_given (codes "within") rows)
is_good rows Decimals = has_rounding rows || not (is_given (codes "decimals") rows)
is_good rows PostGains = is_good_preview (codes "gains") rows
is_good rows Sales = is_good_preview (codes "sales") rows
is_good rows Holdings = is_good_preview (codes "holdings") rows
is_good rows Account = option_map_or names_account (first_of (codes "account") rows) true
is_good rows Commodity = option_map_or is_commodity (first_of (codes "commodity") rows) true
is_good rows Day = has_day (codes "day") rows
is_good rows AsOf = has_day (codes "as-of") rows
is_good rows First = has_day (codes "first") rows
is_good rows Last = has_day (codes "last") rows
is_good rows By = option_map_or are_keys (first_of (codes "by") rows) true
is_good rows Period = option_map_or (λ text. is_some (length_named text)) (first_of (codes "by") rows) true
is_good rows Format = option_map_or is_format (first_of (codes "format") rows) true
is_good rows Without = all_name_entries Key (codes "without") rows
is_good rows WithoutBatch = all_name_entries ByBatch (codes "without-batch") rows
is_good rows WithoutEntries = all_name_entries Entries (codes "without-entries") rows

-- ---- the first bad one

abbrev pub account_options : List BadOption
account_options = Invest ∷ Cash ∷ Fees ∷ Gains ∷ []

-- the options of a rounding account: the account, and what goes with it
abbrev pub rounding_options : List BadOption
rounding_options = Rounding ∷ Within ∷ Decimals ∷ []

-- the options of a word whose values have a rule of ours, in the order of the table of words in docs/RULES.md
abbrev pub options_of : Text → List BadOption
options_of word =
    if bytes_eq word (codes "post") then PostBatch ∷ RowOf ∷ Ref ∷ (rounding_options ++ PostGains ∷ Holdings ∷ From ∷ [])
    else (if bytes_eq word (codes "import")
    then Show ∷ KeepAccepted ∷ Batch ∷ (account_options ++ Except ∷ (rounding_options ++ Sales ∷ Holdings ∷ From ∷ []))
    else (if bytes_eq word (codes "holdings") then AsOf ∷ Day ∷ Format ∷ []
    else (if bytes_eq word (codes "gains") then First ∷ Last ∷ By ∷ Format ∷ []
    else (if bytes_eq word (codes "register") then Account ∷ Commodity ∷ First ∷ Last ∷ Format ∷ []
    else (if bytes_eq word (codes "activity") then Account ∷ First ∷ Last ∷ Period ∷ Format ∷ []
    else (if bytes_eq word (codes "page") then First ∷ Last ∷ Day ∷ []
    else (if bytes_eq word (codes "reconcile") then Account ∷ AsOf ∷ Format ∷ []
    else (if bytes_eq word (codes "restore") then Without ∷ WithoutBatch ∷ WithoutEntries ∷ [] else []))))))))

-- the first of the options whose value is outside its rule
abbrev pub first_bad : List Row → List BadOption → Option BadOption
first_bad rows = find (λ option. not (is_good rows option))

-- ---- options that a call needs

-- whether it is a post that names no batch, neither its own nor that of a row
abbrev pub lacks_batch : Text → List Row → Bool
lacks_batch word rows = bytes_eq word (codes "post") && (not (is_given (codes "batch") rows) && not (has_row rows))

-- whether an import names its book and its batch
abbrev pub names_book : List Row → Bool
names_book rows = is_given (codes "book") rows && is_given (codes "batch") rows

-- whether it names each account that rows are posted to
abbrev pub names_accounts : List Row → Bool
names_accounts rows =
    is_given (codes "invest") rows && (is_given (codes "cash") rows
    && (is_given (codes "fees") rows && is_given (codes "gains") rows))

-- what an import needs of which it lacks some: the book and the batch, and the accounts where there is no profile; nothing where no
-- book is opened
abbrev pub missing_in_import : List Row → Option Needed
missing_in_import rows =
    if is_shown rows then None
    else (if has_profile rows then (if names_book rows then None else Some Book)
    else (if names_book rows && names_accounts rows then None else Some Accounts))

-- what a call of the word needs of which it lacks some, that `clap` doesn't ask for
abbrev pub missing_of : Text → List Row → Option Needed
missing_of word rows =
    if lacks_batch word rows then Some BatchOrRow
    else (if bytes_eq word (codes "import") then missing_in_import rows else None)

-- ---- before a word

-- the first option of a rounding account that is given: before a word, where it doesn't belong
abbrev pub misplaced : List Row → Option BadOption
misplaced rows = find (λ option. is_given (name_of option) rows) rounding_options

-- What words ask for: what the values matched by `clap` name, and the option whose value is outside its rule.
use Rattle.std.specs.Prelude.{◌≡◌, ◌||◌, ◌++◌, if◌then◌else◌, ℕ, Bool, false, true, List, [], Option, Some, None, codes, filter_map, option_and_then, option_map, unwrap_or}
use Rattle.std.specs.Path.{path_file_name}
use Rattle.std.specs.Str.{bytes_eq}
use Rattle.std.specs.String.{string_bytes}
use Rattle.clap.specs.Words.{Row, Text, fault_of, first_of, matches_of, subcommand_of}
use Rattle.lot_import.specs.declared.accounts.Accounts.{Accounts}
use Rattle.lot_without.specs.Value.{named}
use Rattle.lot_without.specs.declared.terms.Strictness.{Strictness}
use Rattle.lot_without.specs.declared.terms.Strictness.TheVariants.{Edited, Unchanged}
use Rattle.lot_without.specs.declared.terms.Tolerance.{Tolerance}
use Rattle.lot_without.specs.declared.terms.Tolerance.TheVariants.{AllAccepted, KeepGoing}
use Rattle.lot_without.specs.declared.value.By.{By}
use Rattle.lot_without.specs.declared.value.By.TheVariants.{Key, Batch, Entries}
use Rattle.lot_without.specs.declared.without.Without.{Without}
use Rattle.lot_args.specs.Activity.{length_of}
use Rattle.lot_args.specs.From.{from_of}
use Rattle.lot_args.specs.Keys.{keys_of}
use Rattle.lot_args.specs.Options.{day_of, except_of, first_bad, has_profile, has_row, is_given, is_set, is_shown, misplaced, missing_of, options_of, rounding_options, value_of, values_of}
use Rattle.lot_args.specs.Preview.{effect_of}
use Rattle.lot_args.specs.Program.{program_app}
use Rattle.lot_args.specs.Rounding.{rounding_of}
use Rattle.lot_args.specs.declared.action.Action.{Action}
use Rattle.lot_args.specs.declared.action.AskedImport.{AskedImport}
use Rattle.lot_args.specs.declared.action.Action.TheVariants.{Check, Init, Migrate, Post, PostRow, Import, ImportBy, Report as Reporting, Reconcile, Restore, Verify}
use Rattle.lot_args.specs.declared.action.Report.{Report}
use Rattle.lot_args.specs.declared.action.Report.TheVariants.{Holdings, HoldingsOn, Gains, GainsBy, AddedGains, Register, Activity, Journal, Page, Dump}
use Rattle.lot_args.specs.declared.action.Format.{Format}
use Rattle.lot_args.specs.declared.action.Format.TheVariants.{Text as AsText, Csv}
use Rattle.lot_args.specs.declared.action.Keeping.{Keeping}
use Rattle.lot_args.specs.declared.action.Keeping.TheVariants.{AllOrNone, Each}
use Rattle.lot_args.specs.declared.action.Saying.{Saying}
use Rattle.lot_args.specs.declared.action.Saying.TheVariants.{Digest, Verified}
use Rattle.lot_args.specs.declared.fault.BadOption.{BadOption}
use Rattle.lot_args.specs.declared.fault.Needed.{Needed}
use Rattle.lot_args.specs.declared.request.Effect.{Effect}
use Rattle.lot_args.specs.declared.request.Effect.TheVariants.{DryRun, Keep}
use Rattle.lot_args.specs.declared.request.Preview.{Preview}
use Rattle.lot_args.specs.declared.request.Preview.TheVariants as preview
use Rattle.lot_args.specs.declared.request.Notes.{Notes}
use Rattle.lot_args.specs.declared.request.Notes.TheVariants.{All, Quiet, Ten}
use Rattle.lot_args.specs.declared.request.Request.{Request}
use Rattle.lot_args.specs.declared.request.Request.TheVariants.{Act, Explain, Import as ImportRows, Show}

-- ---- the values of a word

-- how a report is written: as lines to be read where nothing is said
abbrev pub format_of : List Row → Format
format_of rows = if bytes_eq (value_of (codes "format") rows) (codes "csv") then Csv else AsText

abbrev pub accounts_of : List Row → Accounts
accounts_of rows = record {
  invest = value_of (codes "invest") rows;
  cash = value_of (codes "cash") rows;
  fees = value_of (codes "fees") rows;
  gains = value_of (codes "gains") rows;
}

-- ---- what is left out of a dump

-- what each value of an option leaves out
abbrev pub left_out : By → Text → List Row → List Without
left_out by name rows = filter_map (named by) (values_of name rows)

-- keys, then batches, then ranges
abbrev pub without_of : List Row → List Without
without_of rows =
    left_out Key (codes "without") rows ++ left_out Batch (codes "without-batch") rows
    ++ left_out Entries (codes "without-entries") rows

-- ---- options without a value

-- which commits keep the commands of a dry run, where these are asked for: one for each where nothing is told of the book after it
abbrev pub keeping_told : Preview → Keeping → Keeping
keeping_told preview.Nothing asked = Each
keeping_told preview.Gains asked = asked
keeping_told preview.Holdings asked = asked
keeping_told preview.GainsAndHoldings asked = asked

abbrev pub keeping_in : Effect → Keeping → Keeping
keeping_in Keep asked = asked
keeping_in (DryRun told) asked = keeping_told told asked

-- which commits keep the commands of a call of the word
abbrev pub keeping_of : Text → List Row → Keeping
keeping_of word rows = if is_set (codes "all-or-none") rows then keeping_in (effect_of word rows) AllOrNone else Each

-- which commits keep those of an import by a profile: one for all, where nothing is said
abbrev pub keeping_by_profile : List Row → Keeping
keeping_by_profile rows = if is_set (codes "keep-accepted") rows then Each else keeping_in (effect_of (codes "import") rows) AllOrNone

-- what is written of a verified book
abbrev pub saying_of : List Row → Saying
saying_of rows = if is_set (codes "digest") rows then Digest else Verified

-- whether a dump has to be what it says at its end
abbrev pub strictness_of : List Row → Strictness
strictness_of rows = if is_set (codes "edited") rows then Edited else Unchanged

-- what becomes of a dump one of whose commands is refused
abbrev pub tolerance_of : List Row → Tolerance
tolerance_of rows = if is_set (codes "keep-going") rows then KeepGoing else AllAccepted

-- whether an option that may stand before the word or behind it is given
abbrev pub is_in_either : Text → List Row → List Row → Bool
is_in_either name before rows = is_set name before || is_set name rows

-- what the call explains: where both options are given, nothing
abbrev pub notes_of : List Row → List Row → Notes
notes_of before rows =
    if is_in_either (codes "quiet") before rows then Quiet
    else (if is_in_either (codes "explain-all") before rows then All else Ten)

-- the name of the file of a path, or all of a path that names none
abbrev pub file_name : Text → Text
file_name path = unwrap_or (path_file_name path) path

-- ---- the action

-- the book is the one that is named
abbrev pub IsBook : List Row → List ℕ → Type 0
IsBook rows path = path ≡ value_of (codes "book") rows

-- a word with the values of its options asks for the report
abbrev pub AsksForReport : Text → List Row → Report → Type 0
AsksForReport word rows (Holdings day format) =
    (word ≡ codes "holdings") × (day_of (codes "as-of") rows ≡ None) × (day ≡ day_of (codes "day") rows) × (format ≡ format_of rows)
AsksForReport word rows (HoldingsOn on day format) =
    (word ≡ codes "holdings") × (day_of (codes "as-of") rows ≡ Some on) × (day ≡ unwrap_or (day_of (codes "day") rows) on)
    × (format ≡ format_of rows)
AsksForReport word rows (Gains first last format) =
    (word ≡ codes "gains") × (is_given (codes "by") rows ≡ false) × (first ≡ day_of (codes "first") rows)
    × (last ≡ day_of (codes "last") rows) × (format ≡ format_of rows)
AsksForReport word rows (GainsBy first last by format) =
    (word ≡ codes "gains") × (is_given (codes "by") rows ≡ true) × (first ≡ day_of (codes "first") rows)
    × (last ≡ day_of (codes "last") rows) × (by.items ≡ keys_of rows) × (format ≡ format_of rows)
AsksForReport word rows (AddedGains behind) = ⊥
AsksForReport word rows (Register account commodity first last format) =
    (word ≡ codes "register") × (string_bytes account ≡ value_of (codes "account") rows)
    × (commodity ≡ first_of (codes "commodity") rows) × (first ≡ day_of (codes "first") rows)
    × (last ≡ day_of (codes "last") rows) × (format ≡ format_of rows)
AsksForReport word rows (Activity account length first last format) =
    (word ≡ codes "activity") × (option_map string_bytes account ≡ first_of (codes "account") rows) × (length ≡ length_of rows)
    × (first ≡ day_of (codes "first") rows) × (last ≡ day_of (codes "last") rows) × (format ≡ format_of rows)
AsksForReport word rows Journal = word ≡ codes "journal"
AsksForReport word rows (Page name first last day saying) =
    (word ≡ codes "page") × (string_bytes name ≡ file_name (value_of (codes "book") rows)) × (first ≡ day_of (codes "first") rows)
    × (last ≡ day_of (codes "last") rows) × (day ≡ day_of (codes "day") rows) × (saying ≡ saying_of rows)
AsksForReport word rows Dump = word ≡ codes "dump"

-- a word with the values of its options asks for the action
abbrev pub WordAsks : Text → List Row → Action → Type 0
WordAsks word rows (Check rounding) = ⊥
WordAsks word rows (Init book) = (word ≡ codes "init") × IsBook rows (string_bytes book)
WordAsks word rows (Migrate book) = (word ≡ codes "migrate") × IsBook rows (string_bytes book)
WordAsks word rows (Post post) =
    (word ≡ codes "post") × (has_row rows ≡ false) × IsBook rows (string_bytes post.book)
    × (post.batch ≡ value_of (codes "batch") rows) × (post.from ≡ from_of rows) × (post.rounding ≡ rounding_of rows)
    × (post.keeping ≡ keeping_of word rows)
WordAsks word rows (PostRow book batch reference rounding) =
    (word ≡ codes "post") × (has_row rows ≡ true) × IsBook rows (string_bytes book)
    × (batch ≡ value_of (codes "row-of") rows) × (reference ≡ value_of (codes "ref") rows) × (rounding ≡ rounding_of rows)
WordAsks word rows (Import import) =
    (word ≡ codes "import") × (has_profile rows ≡ false) × IsBook rows (string_bytes import.book) × (import.batch ≡ value_of (codes "batch") rows)
    × (import.accounts ≡ accounts_of rows) × (import.from ≡ from_of rows) × (import.except.items ≡ except_of rows)
    × (import.rounding ≡ rounding_of rows) × (import.keeping ≡ keeping_of word rows)
WordAsks word rows (ImportBy import) = ⊥
WordAsks word rows (Reporting book report) = IsBook rows (string_bytes book) × AsksForReport word rows report
WordAsks word rows (Reconcile asked) =
    (word ≡ codes "reconcile") × IsBook rows (string_bytes asked.book) × (string_bytes asked.account ≡ value_of (codes "account") rows)
    × (asked.day ≡ day_of (codes "as-of") rows) × (asked.format ≡ format_of rows)
WordAsks word rows (Restore restore) =
    (word ≡ codes "restore") × IsBook rows (string_bytes restore.book) × (restore.without.items ≡ without_of rows)
    × (restore.strictness ≡ strictness_of rows) × (restore.tolerance ≡ tolerance_of rows)
    × (option_map string_bytes restore.compare ≡ first_of (codes "compare") rows)
WordAsks word rows (Verify book saying) =
    (word ≡ codes "verify") × IsBook rows (string_bytes book) × (saying ≡ saying_of rows)

-- ---- the request

-- the code that is to be explained
abbrev pub IsCode : List Row → Option (List ℕ) → Type 0
IsCode rows code = code ≡ first_of (codes "code") rows

-- the profile is the one in the file that is named
abbrev pub IsProfile : List Row → List ℕ → Type 0
IsProfile rows path = (has_profile rows ≡ true) × (path ≡ value_of (codes "profile") rows)

-- what an import by a profile asks for beside it
abbrev pub AsksToImport : List Row → AskedImport → Type 0
AsksToImport rows import =
    IsBook rows (string_bytes import.book) × (import.batch ≡ value_of (codes "batch") rows)
    × (import.except.items ≡ except_of rows) × (import.keeping ≡ keeping_by_profile rows)

-- a word with the values of its options, and with those before it, asks for this
abbrev pub WordRequests : List Row → Text → List Row → Request → Type 0
WordRequests before word rows (Act action effect notes) =
    WordAsks word rows action × (effect ≡ effect_of word rows) × (notes ≡ notes_of before rows)
WordRequests before word rows (ImportRows profile import effect notes) =
    (word ≡ codes "import") × (is_shown rows ≡ false) × IsProfile rows (string_bytes profile) × AsksToImport rows import
    × (effect ≡ effect_of word rows) × (notes ≡ notes_of before rows)
WordRequests before word rows (Show profile notes) =
    (word ≡ codes "import") × (is_shown rows ≡ true) × IsProfile rows (string_bytes profile) × (notes ≡ notes_of before rows)
WordRequests before word rows (Explain code) = (word ≡ codes "explain") × IsCode rows (option_map string_bytes code)

-- no word asks for a check, of which nothing is left
abbrev pub ChecksWith : List Row → Request → Type 0
ChecksWith rows (Act action effect notes) =
    (action ≡ Check (rounding_of rows)) × (effect ≡ Keep) × (notes ≡ notes_of rows rows)
ChecksWith rows (ImportRows profile import effect notes) = ⊥
ChecksWith rows (Show profile notes) = ⊥
ChecksWith rows (Explain code) = ⊥

abbrev pub Ask : List Row → Option (Text × List Row) → Request → Type 0
Ask before None request = ChecksWith before request
Ask before (Some asked) request = WordRequests before asked.0 asked.1 request

-- ---- an option before a word

-- the first option of a rounding account that stands before a word: it belongs behind one, or to a call without one
abbrev pub misplaced_in : List Row → Option (Text × List Row) → Option BadOption
misplaced_in before asked = option_and_then (λ asked. misplaced before) asked

-- ---- missing options

-- what the call needs of which it lacks some
abbrev pub missing_in : Option (Text × List Row) → Option Needed
missing_in = option_and_then (λ asked. missing_of asked.0 asked.1)

-- ---- a bad value

-- the first option of a word, in the order of the table of words in docs/RULES.md, whose value is outside its rule; without a
-- word the first option of a rounding account
abbrev pub bad_of : List Row → Option (Text × List Row) → Option BadOption
bad_of before None = first_bad before rounding_options
bad_of before (Some asked) = first_bad asked.1 (options_of asked.0)

-- ---- all words

-- the option that stands before a word, what is needed of which some is missing, and the option whose value is outside its rule,
-- of words as `clap` matches them
abbrev pub misplaced_by : List Text → Option BadOption
misplaced_by words = misplaced_in (matches_of program_app words) (subcommand_of program_app words)

abbrev pub missing_by : List Text → Option Needed
missing_by words = missing_in (subcommand_of program_app words)

abbrev pub bad_by : List Text → Option BadOption
bad_by words = bad_of (matches_of program_app words) (subcommand_of program_app words)

-- `clap` takes the words, of which the first is the program's name, no option is misplaced, none is missing, no value is outside
-- its rule, and they ask for this
abbrev pub AskFor : List Text → Request → Type 0
AskFor words request =
    (fault_of program_app words ≡ []) × Ask (matches_of program_app words) (subcommand_of program_app words) request
    × (misplaced_by words ≡ None) × (missing_by words ≡ None) × (bad_by words ≡ None)

-- `clap` takes the words, and this is the first option that stands before a word and belongs behind one
abbrev pub HaveMisplaced : List Text → BadOption → Type 0
HaveMisplaced words option = (fault_of program_app words ≡ []) × (misplaced_by words ≡ Some option)

-- `clap` takes the words, none is misplaced, and they lack some of these options, which they need
abbrev pub LackSome : List Text → Needed → Type 0
LackSome words needed =
    (fault_of program_app words ≡ []) × (misplaced_by words ≡ None) × (missing_by words ≡ Some needed)

-- `clap` takes the words, none is misplaced and none missing, and this is the first option whose value is outside its rule
abbrev pub HaveBadIn : List Text → BadOption → Type 0
HaveBadIn words bad =
    (fault_of program_app words ≡ []) × (misplaced_by words ≡ None)
    × (missing_by words ≡ None) × (bad_by words ≡ Some bad)

-- `clap` takes the words, no option is misplaced, none is missing, and no value is outside its rule
abbrev pub HaveNoneBad : List Text → Type 0
HaveNoneBad words =
    (fault_of program_app words ≡ []) × (misplaced_by words ≡ None)
    × (missing_by words ≡ None) × (bad_by words ≡ None)

-- The words that the program takes, as `clap` keeps them.
use Rattle.std.specs.Prelude.{pos, true, List, [], ◌∷◌, ◌++◌, codes, Some}
use Rattle.clap.specs.Words.{App, Rule, Text, new_app, new_rule, with_rule, with_subcommand}
use Rattle.clap.specs.declared.builder.ArgAction.TheVariants.{Append, Set, SetTrue}
use Rattle.clap.specs.declared.builder.value_parser.ValueParser.TheVariants.{Signed}
use Rattle.lot_args.specs.Start.{greatest_start}
use Rattle.lot_rounding.specs.Nearest.{most_decimals}

-- an option with one value
abbrev pub option_rule : Text → Rule
option_rule name = record (new_rule name) { long = Some name; value_names = 1; action = Some Set }

-- one that has to be given
abbrev pub required_rule : Text → Rule
required_rule name = record (option_rule name) { required = true }

-- one that may be given any number of times
abbrev pub repeated_rule : Text → Rule
repeated_rule name = record (option_rule name) { action = Some Append }

-- `--from N`, 1 where it isn't given
abbrev pub from_rule : Rule
from_rule = record (option_rule (codes "from")) { parser = Some (Signed (pos 1) (pos greatest_start)); defaults = codes "1" ∷ [] }

-- `--decimals N`
abbrev pub decimals_rule : Rule
decimals_rule = record (option_rule (codes "decimals")) { parser = Some (Signed (pos 0) (pos most_decimals)) }

-- one without a value
abbrev pub flag_rule : Text → Rule
flag_rule name = record (new_rule name) { long = Some name; action = Some SetTrue }

-- a value that stands without an option, and need not be given
abbrev pub place_rule : Text → Rule
place_rule name = record (new_rule name) { value_names = 1; action = Some Set }

-- a word with its options
abbrev pub with_rules : App → List Rule → App
with_rules app [] = app
with_rules app (rule ∷ rules) = with_rules (with_rule app rule) rules

abbrev pub word_app : Text → List Rule → App
word_app name rules = with_rules (new_app name) rules

-- a word on a book
abbrev pub book_app : Text → List Rule → App
book_app name rules = word_app name (required_rule (codes "book") ∷ flag_rule (codes "quiet") ∷ rules)

abbrev pub init_app : App
init_app = book_app (codes "init") (flag_rule (codes "dry-run") ∷ [])

abbrev pub migrate_app : App
migrate_app = book_app (codes "migrate") (flag_rule (codes "dry-run") ∷ [])

-- the options of a rounding account
abbrev pub rounding_rules : List Rule
rounding_rules = option_rule (codes "rounding") ∷ option_rule (codes "within") ∷ decimals_rule ∷ []

-- the options of a word whose commands are judged one after another, with the one that asks for the gains of a dry run
abbrev pub run_rules : Text → List Rule
run_rules gains =
    rounding_rules ++ flag_rule (codes "dry-run") ∷ flag_rule gains ∷ flag_rule (codes "holdings")
    ∷ flag_rule (codes "all-or-none") ∷ flag_rule (codes "explain-all") ∷ []

abbrev pub run_app : Text → List Rule → Text → App
run_app name rules gains = with_rules (book_app name rules) (run_rules gains)

abbrev pub post_app : App
post_app =
    run_app (codes "post")
    (option_rule (codes "batch") ∷ option_rule (codes "row-of") ∷ option_rule (codes "ref") ∷ from_rule ∷ [])
    (codes "gains")

-- which options an import needs, its other options say
abbrev pub import_rules : List Rule
import_rules =
    option_rule (codes "book") ∷ flag_rule (codes "quiet") ∷ option_rule (codes "batch") ∷ option_rule (codes "profile")
    ∷ option_rule (codes "invest") ∷ option_rule (codes "cash") ∷ option_rule (codes "fees") ∷ option_rule (codes "gains")
    ∷ from_rule ∷ repeated_rule (codes "except")
    ∷ (run_rules (codes "sales") ++ flag_rule (codes "keep-accepted") ∷ flag_rule (codes "show") ∷ [])

abbrev pub import_app : App
import_app = word_app (codes "import") import_rules

abbrev pub holdings_app : App
holdings_app =
    book_app (codes "holdings") (option_rule (codes "as-of") ∷ option_rule (codes "day") ∷ option_rule (codes "format") ∷ [])

abbrev pub gains_app : App
gains_app =
    book_app (codes "gains")
    (option_rule (codes "first") ∷ option_rule (codes "last") ∷ option_rule (codes "by") ∷ option_rule (codes "format") ∷ [])

abbrev pub register_app : App
register_app =
    book_app (codes "register")
    (required_rule (codes "account") ∷ option_rule (codes "commodity") ∷ option_rule (codes "first") ∷ option_rule (codes "last")
    ∷ option_rule (codes "format") ∷ [])

abbrev pub activity_app : App
activity_app =
    book_app (codes "activity")
    (option_rule (codes "account") ∷ option_rule (codes "first") ∷ option_rule (codes "last") ∷ option_rule (codes "by")
    ∷ option_rule (codes "format") ∷ [])

abbrev pub journal_app : App
journal_app = book_app (codes "journal") []

abbrev pub page_app : App
page_app =
    book_app (codes "page")
    (option_rule (codes "first") ∷ option_rule (codes "last") ∷ option_rule (codes "day") ∷ flag_rule (codes "digest") ∷ [])

abbrev pub dump_app : App
dump_app = book_app (codes "dump") []

abbrev pub reconcile_app : App
reconcile_app =
    book_app (codes "reconcile") (required_rule (codes "account") ∷ option_rule (codes "as-of") ∷ option_rule (codes "format") ∷ [])

abbrev pub restore_app : App
restore_app =
    book_app (codes "restore")
    (flag_rule (codes "edited") ∷ flag_rule (codes "keep-going") ∷ repeated_rule (codes "without")
    ∷ repeated_rule (codes "without-batch") ∷ repeated_rule (codes "without-entries") ∷ option_rule (codes "compare")
    ∷ flag_rule (codes "dry-run") ∷ [])

abbrev pub verify_app : App
verify_app = book_app (codes "verify") (flag_rule (codes "digest") ∷ [])

abbrev pub explain_app : App
explain_app = word_app (codes "explain") (place_rule (codes "code") ∷ [])

-- a command with its words
abbrev pub with_words : App → List App → App
with_words app [] = app
with_words app (word ∷ words) = with_words (with_subcommand app word.top) words

-- the name of the program, which has a version; `clap` adds the word `help`
abbrev pub named_app : App
named_app =
    let bare = new_app (codes "lotbook") in
    record bare { top = record bare.top { has_version = true } }

-- the program without a word, with the options of a check
abbrev pub bare_app : App
bare_app = with_rules named_app (flag_rule (codes "quiet") ∷ (rounding_rules ++ flag_rule (codes "explain-all") ∷ []))

-- the program
abbrev pub program_app : App
program_app =
    with_words bare_app
    (init_app ∷ migrate_app ∷ post_app ∷ import_app ∷ holdings_app ∷ gains_app ∷ register_app ∷ activity_app
    ∷ journal_app ∷ page_app ∷ dump_app ∷ reconcile_app ∷ restore_app ∷ verify_app ∷ explain_app ∷ [])

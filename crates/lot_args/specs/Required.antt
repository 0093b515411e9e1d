-- The program in which the options that an import needs always have to be given.
use Rattle.std.specs.Prelude.{◌||◌, if◌then◌else◌, Bool, true, false, [], ◌∷◌, codes, map}
use Rattle.std.specs.Str.{bytes_eq}
use Rattle.clap.specs.Words.{App, Rule, Text}
use Rattle.lot_args.specs.Program.{bare_app, import_rules, with_words, word_app}
use Rattle.lot_args.specs.declared.fault.Needed.{Needed}
use Rattle.lot_args.specs.declared.fault.Needed.TheVariants.{Accounts, BatchOrRow, Book}

-- whether the option names the book or the batch
abbrev pub option_names_book : Text → Bool
option_names_book name = bytes_eq name (codes "book") || bytes_eq name (codes "batch")

-- whether it names an account that rows are posted to
abbrev pub option_names_account : Text → Bool
option_names_account name =
    bytes_eq name (codes "invest") || (bytes_eq name (codes "cash")
    || (bytes_eq name (codes "fees") || bytes_eq name (codes "gains")))

-- whether the option of that name is needed
abbrev pub is_needed : Needed → Text → Bool
is_needed BatchOrRow name = false
is_needed Book name = option_names_book name
is_needed Accounts name = option_names_book name || option_names_account name

-- the option, which has to be given where it is needed
abbrev pub demanding_rule : Needed → Rule → Rule
demanding_rule needed rule = if is_needed needed rule.id then record rule { required = true } else rule

-- an import whose needed options have to be given
abbrev pub demanding_import : Needed → App
demanding_import needed = word_app (codes "import") (map (demanding_rule needed) import_rules)

-- the program with that one subcommand
abbrev pub demanding_app : Needed → App
demanding_app needed = with_words bare_app (demanding_import needed ∷ [])

-- What `clap` says of the program whose import needs its options.
use Rattle.std.proofs.Common.{◌≡◌, ◌∙◌, ap, refl, true, codes, map}
use Rattle.clap.specs.Words.{AddsSubcommand, App, app_of, is_simple_and_free, new_app, with_subcommand}
use Rattle.clap.specs.declared.builder.command.Command.{Command}
use Rattle.lot_args.proofs.ProgramLemmas.{plain_kept, whole_word}
use Rattle.lot_args.specs.Program.{bare_app, import_rules}
use Rattle.lot_args.specs.Required.{demanding_app, demanding_import, demanding_rule}
use Rattle.lot_args.specs.declared.fault.Needed.{Needed}
use Rattle.lot_args.specs.declared.fault.Needed.TheVariants.{Accounts, BatchOrRow, Book}

-- the program with the one subcommand
pub whole_demanding : (needed : Needed) (old word new : Command) → app_of old ≡ bare_app → app_of word ≡ demanding_import needed
    → AddsSubcommand old word new → app_of new ≡ demanding_app needed
whole_demanding needed old word new bare is adds =
    let plain = ap (λ (app : App). app.top.is_plain) is
    ∙ plain_kept (map (demanding_rule needed) import_rules) (new_app (codes "import")) in
    whole_word old word new plain adds ∙ ap (λ (app : App). with_subcommand app (app_of word).top) bare
    ∙ ap (λ (app : App). with_subcommand bare_app app.top) is

-- `clap` says what is wrong with words
pub is_told : (needed : Needed) → is_simple_and_free (demanding_app needed) ≡ true
is_told BatchOrRow = refl
is_told Accounts = refl
is_told Book = refl

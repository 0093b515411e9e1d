-- What the table of the subcommands says of each, for the code alone.
use Rattle.std.specs.Prelude.{if◌then◌else◌, true, pos, ◌∷◌, [], Some, codes, map}
use Rattle.clap.specs.Words.{App, Rule, Text}
use Rattle.clap.specs.declared.builder.value_parser.ValueParser.TheVariants.{Signed}
use Rattle.lot_args.specs.Program.{flag_rule, option_rule, place_rule, repeated_rule, required_rule, word_app}
use Rattle.lot_args.specs.Required.{is_needed}
use Rattle.lot_args.specs.Start.{greatest_start}
use Rattle.lot_rounding.specs.Nearest.{most_decimals}
use Rattle.lot_args.specs.declared.fault.Needed.{Needed}
use Rattle.lot_args.specs.declared.options.WordOption.{WordOption}
use Rattle.lot_args.specs.declared.options.Form.{Form}
use Rattle.lot_args.specs.declared.options.Form.TheVariants as form
use Rattle.lot_args.specs.declared.program.Word.{Word}

-- an option of that name, written in that form
abbrev pub rule_of_form : Form → Text → Rule
rule_of_form (form.Required value) name = required_rule name
rule_of_form (form.Optional value) name = option_rule name
rule_of_form (form.Repeated value) name = repeated_rule name
rule_of_form form.Start name = record (option_rule name) { parser = Some (Signed (pos 1) (pos greatest_start)); defaults = codes "1" ∷ [] }
rule_of_form form.Decimals name = record (option_rule name) { parser = Some (Signed (pos 0) (pos most_decimals)) }
rule_of_form form.Flag name = flag_rule name
rule_of_form form.LastFlag name = flag_rule name
rule_of_form (form.Place value) name = place_rule name

abbrev pub rule_for : WordOption → Rule
rule_for given = rule_of_form given.form given.name.now

-- an option, which has to be given where it is needed
abbrev pub demanding_rule_for : Needed → WordOption → Rule
demanding_rule_for needed given =
    if is_needed needed given.name.now then record (rule_for given) { required = true } else rule_for given

-- a subcommand with its options
abbrev pub app_for : Word → App
app_for word = word_app word.name.now (map rule_for word.options.now)

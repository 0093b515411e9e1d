-- Where memory ends behind a text that was read.
use Rattle.std.proofs.Common.{◌≡◌, ◌∙◌, ◌≤◌, ℕ, List, [], ◌∷◌, None, Some, Ok, Err, IfErr, Option, Result, Bor, length, slice_get, refl, sym, ap, subst, arith}
use Rattle.std.specs.List.{AllZip, flat_map}
use Rattle.std.specs.Option.{option_copied}
use Rattle.std.proofs.lemmas.List.{append-nil}
use Rattle.lot_command.specs.declared.command.Command.{Command}
use Rattle.lot_command.specs.declared.command.Command.TheVariants as Commands
use Rattle.lot_read.specs.Line.{SaysStatement}
use Rattle.lot_read.specs.Text.{LinesSay, Reads, RunsOutAt, present, statements_of}
use Rattle.lot_syntax.specs.Line.{AreLines}

-- ---- out of memory behind a text that was read

-- whatever a statement is: the reader's own type of statements has no name here
no_items : {T : Type 0} (Said : List ℕ → Option T → Type 0) (said : List (Option T)) → AllZip Said [] said → said ≡ []
no_items Said [] each = refl
no_items Said (s ∷ said) each = absurd each

some_statement : (command : Command) (rest : List Command) → [] ≡ flat_map statements_of (command ∷ rest) → ⊥
some_statement (Commands.Opening o) rest none = absurd cc
some_statement (Commands.Closing c) rest none = absurd cc
some_statement (Commands.Declaring d) rest none = absurd cc
some_statement (Commands.Quoting q) rest none = absurd cc
some_statement (Commands.Transaction t) rest none = absurd cc

-- no command is said by no line
some_line : (lines : List (List ℕ)) (command : Command) (rest : List Command) → LinesSay lines (command ∷ rest) → 1 ≤ length lines
some_line [] command rest says = absurd (some_statement command rest (ap present (sym (no_items SaysStatement says.said says.each)) ∙ says.all))
some_line (line ∷ lines) command rest says = omega arith

pub on_error : {A E : Type 0} (result : Result A E) (P : Type 0) → P → IfErr result (λ _. P)
on_error (Ok x) P it = tt
on_error (Err e) P it = it

-- all lines of a text that says a command say commands
pub runs_out : (commands : List Command) (text : List ℕ) (first : Option Command) (found : Command) → first ≡ slice_get commands 0 → first ≡ Some found
    → Reads text commands → (number : ℕ) × RunsOutAt text number
runs_out [] text first found value some reads =
    let got : slice_get [] 0 ≡ Some found = sym value ∙ some in absurd cc
runs_out (command ∷ rest) text first found value some (lines, whole, says) = (
  length lines,
  record {
    lines = lines;
    after = [];
    whole = subst (λ (ls : List (List ℕ)). AreLines ls text) (sym (append-nil lines)) whole;
    place = refl;
    from_one = some_line lines command rest says;
    commands = command ∷ rest;
    says = says;
  },
)

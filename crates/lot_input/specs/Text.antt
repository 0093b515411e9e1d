-- The commands of an input that is ledger text, and why it isn't (docs/FORMATS.md, Ledger text).
use Rattle.std.specs.Prelude.{◌≡◌, ℕ, List, [], ◌∷◌, length, Option, Some, None, option_map}
use Rattle.std.specs.List.{range_with_len}
use Rattle.lot_command.specs.declared.command.Command.{Command}
use Rattle.lot_command.specs.declared.key.Key.{Key}
use Rattle.lot_input.specs.Keyed.{keyed_from, post_source, row_key}
use Rattle.lot_input.specs.declared.fault.InputFault.{InputFault}
use Rattle.lot_input.specs.declared.fault.InputFault.TheVariants.{Unasked, Unread, Text, Rows, Cash, Export, Statement, Memory}
use Rattle.lot_read.specs.Text.{IsFaultOf, Reads}
use Rattle.lot_rounding.specs.Asked.{plain}
use Rattle.lot_rounding.specs.declared.asked.Asked.{Asked}

-- the input is ledger text, and these are its commands from that number on, with their numbers, each under the key of its number
-- in the batch
abbrev pub TextMeans : List ℕ → ℕ → List ℕ → List ℕ × List (Key × Asked) → Type 0
TextMeans batch from input given =
    (commands : List Command) × Reads input commands × (given.1 ≡ keyed_from (post_source batch) from commands)
    × (given.0 ≡ range_with_len from (length given.1))

-- the one command of a list; none, where it has another number of commands
abbrev pub only : List Command → Option Command
only [] = None
only (command ∷ []) = Some command
only (command ∷ next ∷ commands) = None

-- the input is ledger text, and this is its one command under the key of the row with that `ref`; or it has none, or several
abbrev pub RowMeans : List ℕ → List ℕ → List ℕ → Option (Key × Asked) → Type 0
RowMeans batch reference input given =
    (commands : List Command) × Reads input commands × (given ≡ option_map (λ command. (row_key batch reference, plain command)) (only commands))

-- The input is no ledger text, and this is its first faulty line. Or memory ends at a line before that, and the lines up to
-- that one say commands.
abbrev pub IsFaultyText : List ℕ → InputFault → Type 0
IsFaultyText input Unasked = ⊥
IsFaultyText input (Unread fault) = ⊥
IsFaultyText input (Text fault) = IsFaultOf input fault
IsFaultyText input (Rows fault) = ⊥
IsFaultyText input (Cash fault) = ⊥
IsFaultyText input (Export fault) = ⊥
IsFaultyText input (Statement fault) = ⊥
IsFaultyText input Memory = (commands : List Command) × Reads input commands

-- Which texts are canonical (docs/FORMATS.md, Canonical text).
use Rattle.std.specs.Prelude.{◌≡◌, ℕ, List}
use Rattle.lot_command.specs.Canonical.{canonical}
use Rattle.lot_command.specs.declared.command.Command.{Command}
use Rattle.lot_command.specs.Sayable.{IsSayable}

-- the text is the canonical text of a command
abbrev pub IsCanonical : List ℕ → Type 0
IsCanonical text = (command : Command) × IsSayable command × (text ≡ canonical command)

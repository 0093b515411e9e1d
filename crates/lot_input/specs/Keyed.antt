-- The commands of an input under their keys (docs/RULES.md, Keys and repeats).
use Rattle.std.specs.Prelude.{ℕ, ◌+◌, ◌-◌, ◌^◌, ◌<◌, suc, All, List, [], ◌∷◌, ◌++◌, codes, decimal, drop}
use Rattle.lot_command.specs.declared.command.Command.{Command}
use Rattle.lot_command.specs.declared.key.Key.{Key}
use Rattle.lot_rounding.specs.Asked.{plain}
use Rattle.lot_rounding.specs.declared.asked.Asked.{Asked}

-- where the commands of a batch come from, by the word that sends them
abbrev pub source_of : List ℕ → List ℕ → List ℕ
source_of word batch = word ++ (codes ":" ++ batch)

-- the source of commands in ledger text
abbrev pub post_source : List ℕ → List ℕ
post_source = source_of (codes "post")

-- the source of rows of broker files
abbrev pub import_source : List ℕ → List ℕ
import_source = source_of (codes "import")

-- the key of the command of that number, from a source
abbrev pub numbered_key : List ℕ → ℕ → Key
numbered_key source number = record { source = source; name = decimal number }

-- the key of the row with that `ref`, of a batch of broker files
abbrev pub row_key : List ℕ → List ℕ → Key
row_key batch reference = record { source = import_source batch; name = reference }

-- commands under the keys of their numbers, of which the first has that one
abbrev pub under_keys : List ℕ → ℕ → List Command → List (Key × Asked)
under_keys source number [] = []
under_keys source number (command ∷ commands) = (numbered_key source number, plain command) ∷ under_keys source (suc number) commands

-- those from that number on; the first of all has the number 1
abbrev pub keyed_from : List ℕ → ℕ → List Command → List (Key × Asked)
keyed_from source from commands = under_keys source from (drop (from - 1) commands)

-- each of the numbers has a next one that is counted, too
abbrev pub HaveNext : List ℕ → Type 0
HaveNext numbers = All (λ number. number + 1 < 2 ^ 64) numbers

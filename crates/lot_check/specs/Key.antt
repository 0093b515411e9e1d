-- The keys of the commands (docs/RULES.md, Keys and repeats).
use Rattle.std.specs.Prelude.{ℕ, codes, decimal}
use Rattle.lot_command.specs.declared.key.Key.{Key}

-- the key of the command of that number
abbrev pub key_of : ℕ → Key
key_of number = record { source = codes "post:check"; name = decimal number }

use Rattle.std.proofs.Common.{◌≡◌, ◌∷◌, ◌++◌, take, flat_map}
use Rattle.std.specs.String.{string_bytes}
use Rattle.lot_command.proofs.canonical.currencies_part.Given as goal

-- a comma and each of the first others are appended
abbrev pub invariant-loop-currency : goal.invariant-loop-currency
invariant-loop-currency l =
    string_bytes l.text ≡ string_bytes l.initial.text ++ flat_map (λ currency. 44 ∷ currency) (take l.currency-index l.others)

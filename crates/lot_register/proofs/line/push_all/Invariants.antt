use Rattle.std.proofs.Common.{◌≡◌, ◌++◌, flat_map, take}
use Rattle.std.specs.String.{string_bytes}
use Rattle.lot_register.proofs.line.push_all.Given as goal

-- the first texts are appended
abbrev pub invariant-loop-more : goal.invariant-loop-more
invariant-loop-more l = string_bytes l.text ≡ string_bytes l.initial.text ++ flat_map (λ text. text.now) (take l.more-index l.texts)

-- The texts so far are labels.
use Rattle.std.proofs.Common.{◌≡◌, map, take}
use Rattle.lot_args.proofs.values.labels.Given as goal

abbrev pub invariant-loop-text : goal.invariant-loop-text
invariant-loop-text l = l.labels.items ≡ map (λ text. text.now) (take l.text-index l.texts)

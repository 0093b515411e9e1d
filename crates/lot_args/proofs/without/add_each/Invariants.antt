-- The entries that the texts so far name stand behind the others.
use Rattle.std.proofs.Common.{◌≡◌, ◌++◌, drop, map}
use Rattle.std.specs.Prelude.{filter_map}
use Rattle.lot_without.specs.Value.{named}
use Rattle.lot_args.proofs.without.add_each.Given as goal

abbrev pub invariant-loop-text : goal.invariant-loop-text
invariant-loop-text l =
    l.without.items ++ filter_map (named l.by) (map (λ text. text.now) (drop l.text-index l.texts))
    ≡ l.fn.without.items ++ filter_map (named l.by) (map (λ text. text.now) l.texts)

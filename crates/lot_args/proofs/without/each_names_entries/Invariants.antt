-- The texts so far name entries.
use Rattle.std.proofs.Common.{◌≡◌, drop, map}
use Rattle.std.specs.List.{list_all}
use Rattle.lot_args.specs.Options.{names_entries}
use Rattle.lot_args.proofs.without.each_names_entries.Given as goal

abbrev pub invariant-loop-text : goal.invariant-loop-text
invariant-loop-text l =
    list_all (names_entries l.by) (map (λ text. text.now) l.texts)
    ≡ list_all (names_entries l.by) (map (λ text. text.now) (drop l.text-index l.texts))

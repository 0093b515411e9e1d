-- The texts so far are labels.
use Rattle.std.proofs.Common.{◌≡◌, drop, map}
use Rattle.std.specs.List.{list_all}
use Rattle.lot_base.specs.Name.{is_label}
use Rattle.lot_args.proofs.good.are_labels.Given as goal

abbrev pub invariant-loop-text : goal.invariant-loop-text
invariant-loop-text l =
    list_all is_label (map (λ text. text.now) l.texts) ≡ list_all is_label (map (λ text. text.now) (drop l.text-index l.texts))

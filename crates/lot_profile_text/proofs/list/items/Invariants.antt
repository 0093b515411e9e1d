use Rattle.std.proofs.Common.{◌≡◌, suc, drop}
use Rattle.toml.specs.View.{array_view, items_view}
use Rattle.lot_profile_text.specs.Reading.{each, items_of, numbered, numbered_items}
use Rattle.lot_profile_text.proofs.EachLemmas.{behind}
use Rattle.lot_profile_text.proofs.list.items.Given as goal

abbrev pub invariant-loop-index : goal.invariant-loop-index
invariant-loop-index g l =
    items_of g.P.Part.said l.place (array_view l.array) ≡ behind l.all (each (λ i. g.P.Part.said (numbered l.place i.0) i.1) (numbered_items (suc l.index) (items_view (drop l.index l.array.items))))

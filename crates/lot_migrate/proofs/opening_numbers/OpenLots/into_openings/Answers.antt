-- All rows are those of what is kept, in its order.
use Rattle.std.proofs.Common.{◌≡◌, [], ◌++◌, sym, ap, subst, ◌∙◌}
use Rattle.std.proofs.lemmas.List.{append-nil}
use Rattle.std.specs.List.{filter_map}
use Rattle.lot_migrate.proofs.OpeningRowLemmas.{lists-rows}
use Rattle.lot_migrate.specs.LotOpenings.{ListsOpenings, row_of}
use Rattle.lot_migrate.proofs.opening_numbers.OpenLots.into_openings.Goals as goal

pub returns-clause-lists : goal.returns-clause-lists
returns-clause-lists c legs keeps =
    let rows = c.loop-position.rows.items in
    let none : c.loop-position.position-iterator ≡ [] = c.in-None.ensures.steps.0 in
    let all : filter_map row_of c.args.self.lots.entries ≡ rows =
    sym c.loop-position.invariant ∙ ap (λ rest. rows ++ filter_map row_of rest) none ∙ append-nil rows in
    subst (ListsOpenings legs) all
    (lists-rows legs c.args.self.lots c.into_iter-position-iterator.ensures.into_iter_gives.5 keeps.lots)

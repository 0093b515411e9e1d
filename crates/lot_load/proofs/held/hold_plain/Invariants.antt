-- Once the rows that are left are known, all are.
use Rattle.std.specs.Prelude.{drop}
use Rattle.std.specs.List.{AllByRecursion}
use Rattle.lot_book.specs.Openings.{FactsWithOpenings}
use Rattle.lot_load.specs.Known.{IsTruePlain, KnowsUnits}
use Rattle.lot_load.proofs.LearnLemmas.{IsLeft}
use Rattle.lot_view.specs.View.{known_with_openings}
use Rattle.lot_load.proofs.held.hold_plain.Given as goal

abbrev pub invariant-loop-row : goal.invariant-loop-row
invariant-loop-row l =
    (book : FactsWithOpenings) → AllByRecursion (IsTruePlain book.facts) l.rows → IsLeft KnowsUnits l.rows (drop l.row-index l.rows) book (known_with_openings l.fn.view) (known_with_openings l.view)

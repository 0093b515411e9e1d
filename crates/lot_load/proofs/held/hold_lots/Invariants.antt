-- Once the rows that are left are known, all are.
use Rattle.std.specs.List.{AllByRecursion}
use Rattle.std.specs.Iterator.Adapters.{zip_first, zip_second}
use Rattle.std.specs.Slice.Iter.{iter_rest}
use Rattle.lot_book.specs.Openings.{FactsWithOpenings}
use Rattle.lot_load.specs.Known.{IsTrueLot, IsTrueOpening}
use Rattle.lot_load.proofs.LotLemmas.{AreLeft}
use Rattle.lot_view.specs.View.{known_with_openings}
use Rattle.lot_load.proofs.held.hold_lots.Given as goal

abbrev pub invariant-loop-row : goal.invariant-loop-row
invariant-loop-row l =
    (book : FactsWithOpenings) → AllByRecursion (IsTrueLot l.pair book.facts) l.lots → AllByRecursion (IsTrueOpening l.pair book) l.openings
    → AreLeft l.pair l.lots (iter_rest (zip_first l.row-iterator)) (iter_rest (zip_second l.row-iterator)) book
    (known_with_openings l.fn.view) (known_with_openings l.view)

use Rattle.std.proofs.Common.{◌*◌, ◌≤◌}
use Rattle.std.specs.Prelude.{All}
use Rattle.lot_book.specs.Leg.{units_moved}
use Rattle.lot_book.specs.OpeningNumber.{IsNumbered}
use Rattle.lot_tests.proofs.opening_numbers.legs.Given as goal

-- the legs so far are numbered, and move few units each
abbrev pub invariant-loop-case : goal.invariant-loop-case
invariant-loop-case g l = record {
  numbered : All IsNumbered l.legs.items;
  moved : units_moved l.legs.items ≤ 100 * l.case-index;
}

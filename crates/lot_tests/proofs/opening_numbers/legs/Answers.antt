-- Few legs that move few units each stay in the range of units.
use Rattle.std.proofs.Common.{◌<◌, arith}
use Rattle.lot_num.specs.Amount.{units_limit}
use Rattle.lot_book.specs.Leg.{units_moved}
use Rattle.lot_tests.proofs.RangeLemmas.{StayInRange-few}
use Rattle.lot_tests.proofs.opening_numbers.legs.Goals as goal

pub returns-clause-in_range : goal.returns-clause-in_range
returns-clause-in_range g c =
    let few : units_moved c.loop-case.legs.items < units_limit = omega arith in
    StayInRange-few c.loop-case.legs.items few

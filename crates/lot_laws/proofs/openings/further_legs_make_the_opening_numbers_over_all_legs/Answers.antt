-- Leg by leg.
use Rattle.lot_laws.proofs.StepOpenings.{numbers_after}
use Rattle.lot_laws.proofs.openings.further_legs_make_the_opening_numbers_over_all_legs.Goals as goal

pub returns : goal.returns
returns c = record { numbers = numbers_after }

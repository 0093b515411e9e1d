use Rattle.lot_period.proofs.DateLemmas.{leap_day}
use Rattle.lot_period.proofs.laws.the_same_day_of_a_leap_day.Goals as goal

pub returns : goal.returns
returns c = leap_day

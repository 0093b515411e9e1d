use Rattle.lot_period.proofs.DateLemmas.{same_day}
use Rattle.lot_period.proofs.laws.the_same_day_is_of_the_same_date.Goals as goal

pub returns : goal.returns
returns c = same_day

use Rattle.lot_base.proofs.DateLemmas.{IsDay-civil}
use Rattle.lot_base.proofs.DayLemmas.{day_text-date}
use Rattle.lot_base.proofs.laws.day_text_is_of_the_date.Goals as goal

pub returns : goal.returns
returns c year month day is = day_text-date year month day (IsDay-civil year month day is)

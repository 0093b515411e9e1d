use Rattle.lot_noted.proofs.RisingLemmas.{legs_stay}
use Rattle.lot_noted.proofs.laws.legs_stay_where_days_never_fall.Goals as goal

pub returns : goal.returns
returns c = legs_stay

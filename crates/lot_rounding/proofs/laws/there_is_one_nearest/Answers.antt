use Rattle.lot_rounding.proofs.NearestLemmas.{one_nearest, one_rate, one_rounded}
use Rattle.lot_rounding.proofs.laws.there_is_one_nearest.Goals as goal

pub returns-clause-nearest : goal.returns-clause-nearest
returns-clause-nearest c n d a b some first second = one_nearest n d a b some first second

pub returns-clause-rounded : goal.returns-clause-rounded
returns-clause-rounded c n amount a b first second = one_rounded n amount a b first second

pub returns-clause-rate : goal.returns-clause-rate
returns-clause-rate c units total a b first second = one_rate units total a b first second

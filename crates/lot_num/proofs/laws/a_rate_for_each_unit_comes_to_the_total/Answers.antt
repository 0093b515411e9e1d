use Rattle.lot_num.proofs.PerUnitLemmas.{per_unit-some, per_unit-every}
use Rattle.lot_num.proofs.laws.a_rate_for_each_unit_comes_to_the_total.Goals as goal

pub returns : goal.returns
returns c units total rate = (per_unit-some units total rate, per_unit-every units total rate)

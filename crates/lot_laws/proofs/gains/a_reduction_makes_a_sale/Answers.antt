use Rattle.lot_laws.proofs.GainLaws.{a_reduction_makes_a_sale}
use Rattle.lot_laws.proofs.gains.a_reduction_makes_a_sale.Goals as goal

pub returns : goal.returns
returns c = a_reduction_makes_a_sale

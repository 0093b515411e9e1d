use Rattle.lot_laws.proofs.GainLaws.{priced_sales_have_a_gain}
use Rattle.lot_laws.proofs.gains.priced_sales_have_a_gain.Goals as goal

pub returns : goal.returns
returns c = priced_sales_have_a_gain

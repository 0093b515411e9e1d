use Rattle.lot_csv.proofs.LawLemmas.{records_add_up}
use Rattle.lot_csv.proofs.laws.records_add_up_to_the_sale.Goals as goal

pub returns : goal.returns
returns c = records_add_up

use Rattle.lot_import.proofs.LotLaws.{with_empty_lot}
use Rattle.lot_import.proofs.laws.an_empty_lot_changes_no_row.Goals as goal

pub returns : goal.returns
returns c = with_empty_lot

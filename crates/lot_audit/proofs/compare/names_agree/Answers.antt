-- The statements ask for all rows.
use Rattle.lot_audit.proofs.WholeLemmas.{account_all, allowed_all, commodity_all, head_all}
use Rattle.lot_audit.proofs.compare.names_agree.Goals as goal

pub are_told-requires : goal.are_told-requires
are_told-requires g c = account_all

pub are_told-requires-2 : goal.are_told-requires-2
are_told-requires-2 g c = allowed_all

pub are_told-requires-3 : goal.are_told-requires-3
are_told-requires-3 g c = commodity_all

pub are_told-requires-4 : goal.are_told-requires-4
are_told-requires-4 g c = head_all

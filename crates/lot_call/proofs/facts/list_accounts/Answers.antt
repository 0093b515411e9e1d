use Rattle.lot_call.proofs.SelectLemmas.{accounts_selects}
use Rattle.lot_call.proofs.facts.list_accounts.Goals as goal

pub select-requires : goal.select-requires
select-requires g c = accounts_selects

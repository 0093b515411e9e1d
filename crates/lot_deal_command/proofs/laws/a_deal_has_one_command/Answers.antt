use Rattle.lot_deal_command.proofs.OneLaws.{one_command}
use Rattle.lot_deal_command.proofs.laws.a_deal_has_one_command.Goals as goal

pub returns : goal.returns
returns c = one_command

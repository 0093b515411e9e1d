use Rattle.lot_atomic.proofs.AllOrNoneLemmas.{turned_themselves}
use Rattle.lot_store.proofs.RunLemmas.{turns_judge}
use Rattle.lot_atomic.proofs.laws.turned_commands_are_judged_in_order.Goals as goal

pub returns : goal.returns
returns c = record { judged = turns_judge; themselves = turned_themselves }

use Rattle.lot_host.proofs.OldLemmas.{none_taken_up}
use Rattle.lot_host.proofs.action.old_in.Goals as goal

pub returns-in-Ok-clause-fault : goal.returns-in-Ok-clause-fault
returns-in-Ok-clause-fault g c =
    none_taken_up g.H.Host c.args.path.now c.in-Ok.database c.take_up.result c.in-Ok.ensures.read c.take_up.ensures.fault

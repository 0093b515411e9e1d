use Rattle.lot_check.proofs.FaultLemmas.{unreported}
use Rattle.lot_check.proofs.batch.conclude.Goals as goal

pub returns-in-Err-print_fault-clause-concludes : goal.returns-in-Err-print_fault-clause-concludes
returns-in-Err-print_fault-clause-concludes g c =
    rw (c.in-Err.is) (unreported _ _ c.in-Err.fault c.in-Err-print_fault.cut c.in-Err-print_fault.ensures.bytes)

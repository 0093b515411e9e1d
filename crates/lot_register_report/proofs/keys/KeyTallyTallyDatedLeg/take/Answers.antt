use Rattle.lot_register_report.proofs.KeyLemmas.{leg_taken}
use Rattle.lot_register_report.proofs.keys.KeyTallyTallyDatedLeg.take.Goals as goal

pub returns : goal.returns
returns c = λ asked legs taken. leg_taken _ _ (λ takes. takes asked legs taken) c.add.result c.add.ensures.takes c.add.ensures.cause

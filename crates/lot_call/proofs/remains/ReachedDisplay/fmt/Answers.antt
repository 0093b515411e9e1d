-- How far a run came is written.
use Rattle.std.proofs.Common.{refl}
use Rattle.std.proofs.Output.{has_written_of_eq}
use Rattle.lot_call.proofs.remains.ReachedDisplay.fmt.Goals as goal

pub returns-in-Some-clause-writes : goal.returns-in-Some-clause-writes
returns-in-Some-clause-writes g c = λ plain ok.
    has_written_of_eq _ _ _ _ _ (rw c.in-Some.is refl) (c.write.ensures.writes plain ok)

pub returns-in-None-clause-writes : goal.returns-in-None-clause-writes
returns-in-None-clause-writes g c = λ plain ok.
    has_written_of_eq _ _ _ _ _ (rw c.in-None.is refl) (c.write-in-None.ensures.writes plain ok)

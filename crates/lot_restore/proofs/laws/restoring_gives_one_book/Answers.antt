use Rattle.lot_restore.proofs.RestoredLemmas.{restored_alike}
use Rattle.lot_restore.proofs.laws.restoring_gives_one_book.Goals as goal

pub returns : goal.returns
returns c place before dumped verdicts others after other h k = restored_alike place before dumped verdicts others after other h k

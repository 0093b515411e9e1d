use Rattle.std.proofs.Common.{[], arith}
use Rattle.lot_restore.proofs.RestoredLemmas.{first_book, place_within}
use Rattle.lot_restore.proofs.laws.what_is_restored_is_a_book.Goals as goal

pub returns-clause-book : goal.returns-clause-book
returns-clause-book c place dumped verdicts after rise h = first_book place 0 [] dumped verdicts after rise tt h

pub returns-clause-within : goal.returns-clause-within
returns-clause-within c place dumped verdicts after h = place_within place 0 [] dumped verdicts after (omega arith) h

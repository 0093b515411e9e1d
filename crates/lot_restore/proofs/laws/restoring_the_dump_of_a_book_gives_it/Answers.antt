use Rattle.lot_restore.proofs.DumpOfBookLemmas.{gives_back}
use Rattle.lot_restore.proofs.laws.restoring_the_dump_of_a_book_gives_it.Goals as goal

pub returns : goal.returns
returns c asked place entries end none can head is_end book within it made is = gives_back asked place entries end none can head is_end book within it made is

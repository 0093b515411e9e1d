use Rattle.sqlite.specs.Held.{state}
use Rattle.lot_restore.proofs.TakenLemmas.{a_judged, can_be_dumped, given_back, head_fits, may_end}
use Rattle.lot_restore.proofs.laws.the_dump_of_a_book_is_taken.Goals as goal

pub returns-clause-can : goal.returns-clause-can
returns-clause-can g c tables entries stand blanks = (can_be_dumped tables entries stand blanks, head_fits tables entries stand)

pub returns-clause-judged : goal.returns-clause-judged
returns-clause-judged g c asked place entries end none can head is_end unchanged book = a_judged asked place entries end can head is_end unchanged none book

pub returns-clause-given : goal.returns-clause-given
returns-clause-given g c asked place entries end none can head is_end book within before written old new how =
    given_back asked place entries end can head is_end none book within before written (state g.S.Store old) (state g.S.Store new) how

pub returns-clause-fails : goal.returns-clause-fails
returns-clause-fails g c asked place entries end can head is_end unchanged old new =
    may_end asked place entries end can head is_end unchanged (state g.S.Store old) (state g.S.Store new)

-- The ratio is one, so the lots are.
use Rattle.lot_split.proofs.laws.there_is_one_split.Goals as goal
use Rattle.lot_split.proofs.SplitLemmas.{no_fault, one_split}

pub returns-clause-one : goal.returns-clause-one
returns-clause-one c asked method lots t other first second = one_split asked method lots t other first second

pub returns-clause-no_fault : goal.returns-clause-no_fault
returns-clause-no_fault c asked method lots t fault is has = no_fault asked method lots t fault is has

-- The account has one standing, and its lots stand in one order.
use Rattle.lot_split.proofs.OnLemmas.{no_fault_on, one_split_on}
use Rattle.lot_split.proofs.laws.there_is_one_split_on.Goals as goal

pub returns-clause-one : goal.returns-clause-one
returns-clause-one c ties facts asked t other first second = one_split_on ties facts asked t other first second

pub returns-clause-no_fault : goal.returns-clause-no_fault
returns-clause-no_fault c ties facts asked t fault is has = no_fault_on ties facts asked t fault is has

-- The last leg that opens the lot is found, or none opens it and the lot holds nothing.
use Rattle.lot_laws.proofs.OpeningLemmas.{computed, one_number, where_held}
use Rattle.lot_laws.proofs.opening_numbers.a_lot_has_one_opening_number.Goals as goal

pub returns-clause-held : goal.returns-clause-held
returns-clause-held c = where_held

pub returns-clause-one : goal.returns-clause-one
returns-clause-one c = one_number

pub returns-clause-computed : goal.returns-clause-computed
returns-clause-computed c = computed

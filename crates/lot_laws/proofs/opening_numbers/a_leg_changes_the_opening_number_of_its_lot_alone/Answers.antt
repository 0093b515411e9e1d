-- By whether the leg behind the others opens the lot.
use Rattle.lot_laws.proofs.OpeningLemmas.{number_elsewhere, number_emptied, number_kept, number_opened}
use Rattle.lot_laws.proofs.opening_numbers.a_leg_changes_the_opening_number_of_its_lot_alone.Goals as goal

pub returns-clause-elsewhere : goal.returns-clause-elsewhere
returns-clause-elsewhere c = number_elsewhere

pub returns-clause-kept : goal.returns-clause-kept
returns-clause-kept c = number_kept

pub returns-clause-opened : goal.returns-clause-opened
returns-clause-opened c = number_opened

pub returns-clause-emptied : goal.returns-clause-emptied
returns-clause-emptied c = number_emptied

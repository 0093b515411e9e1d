use Rattle.lot_cli.proofs.RowLemmas.{in_place, row_refused, row_repeats, row_stands}
use Rattle.lot_cli.proofs.laws.a_row_acts_once.Goals as goal

pub returns-clause-stands : goal.returns-clause-stands
returns-clause-stands c = row_stands

pub returns-clause-repeats : goal.returns-clause-repeats
returns-clause-repeats c = row_repeats

pub returns-clause-refused : goal.returns-clause-refused
returns-clause-refused c = row_refused

pub returns-clause-in_place : goal.returns-clause-in_place
returns-clause-in_place c = in_place

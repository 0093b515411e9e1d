use Rattle.lot_import.proofs.DealLaws.{one_asked, one_command, one_row_of}
use Rattle.lot_import.proofs.laws.a_row_has_one_command.Goals as goal

pub returns-clause-command : goal.returns-clause-command
returns-clause-command c = one_command

pub returns-clause-asked : goal.returns-clause-asked
returns-clause-asked c = one_asked

pub returns-clause-row : goal.returns-clause-row
returns-clause-row c = one_row_of

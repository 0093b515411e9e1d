use Rattle.lot_read.proofs.HeaderLemmas.{one_command, some_command, command_inside}
use Rattle.lot_read.proofs.laws.a_header_means_one_command.Goals as goal

pub returns-clause-one : goal.returns-clause-one
returns-clause-one c = one_command

pub returns-clause-some : goal.returns-clause-some
returns-clause-some c = some_command

pub returns-clause-inside : goal.returns-clause-inside
returns-clause-inside c = command_inside

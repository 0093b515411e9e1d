use Rattle.lot_print.proofs.ReadLemmas.{same_command, same_commands}
use Rattle.lot_print.proofs.laws.canonical_texts_tell_commands_apart.Goals as goal

pub returns-clause-one : goal.returns-clause-one
returns-clause-one c = same_command

pub returns-clause-list : goal.returns-clause-list
returns-clause-list c = same_commands

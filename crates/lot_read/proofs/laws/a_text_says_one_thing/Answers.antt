-- By the lines of a text, which are these alone, one after another.
use Rattle.lot_read.proofs.TextLaws.{fault_one, line_one, not_both, reads_one, text_known}
use Rattle.lot_read.proofs.laws.a_text_says_one_thing.Goals as goal

pub returns-clause-some : goal.returns-clause-some
returns-clause-some c = text_known

pub returns-clause-either : goal.returns-clause-either
returns-clause-either c = not_both

pub returns-clause-commands : goal.returns-clause-commands
returns-clause-commands c = reads_one

pub returns-clause-line : goal.returns-clause-line
returns-clause-line c = line_one

pub returns-clause-fault : goal.returns-clause-fault
returns-clause-fault c = fault_one

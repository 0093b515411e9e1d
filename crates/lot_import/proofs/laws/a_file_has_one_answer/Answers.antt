use Rattle.lot_import.proofs.FileLaws.{fault_one, file_answered, file_rows_one, rows_or_fault}
use Rattle.lot_import.proofs.laws.a_file_has_one_answer.Goals as goal

pub returns-clause-some : goal.returns-clause-some
returns-clause-some c = file_answered

pub returns-clause-either : goal.returns-clause-either
returns-clause-either c = rows_or_fault

pub returns-clause-rows : goal.returns-clause-rows
returns-clause-rows c = file_rows_one

pub returns-clause-fault : goal.returns-clause-fault
returns-clause-fault c = fault_one

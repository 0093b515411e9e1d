use Rattle.lot_import.proofs.RecordLaws.{one_cause, one_row, record_known, row_or_fault}
use Rattle.lot_import.proofs.laws.a_record_says_one_thing.Goals as goal

pub returns-clause-some : goal.returns-clause-some
returns-clause-some c = record_known

pub returns-clause-either : goal.returns-clause-either
returns-clause-either c = row_or_fault

pub returns-clause-row : goal.returns-clause-row
returns-clause-row c = one_row

pub returns-clause-cause : goal.returns-clause-cause
returns-clause-cause c = one_cause

use Rattle.lot_import.specs.Reading.{HasFileFault, records_left}
use Rattle.lot_import.proofs.FileLemmas.{behind_header, handed, header_fault, said_file}
use Rattle.lot_import.proofs.file.rows_of.Goals as goal

pub returns-in_err-version-clause-fault : goal.returns-in_err-version-clause-fault
returns-in_err-version-clause-fault c =
    let all = records_left c.args.reader.now in
    handed c.from_residual.result (HasFileFault all c.version.new.reader) c.in_err-version.field-0.0 c.from_residual.ensures.1
    (header_fault all c.version.new.reader c.in_err-version.field-0.0 c.in_err-version.ensures.fault)

pub returns-clause-rows : goal.returns-clause-rows
returns-clause-rows c =
    said_file c.in_ok-version.version (records_left c.args.reader.now) (records_left c.version.new.reader) c.in_ok-version.ensures.some
    (λ rows. rows.items) c.rows_behind.result c.rows_behind.ensures.said c.rows_behind.ensures.few

pub returns-clause-fault : goal.returns-clause-fault
returns-clause-fault c =
    behind_header c.in_ok-version.version (records_left c.args.reader.now) (records_left c.version.new.reader) c.in_ok-version.ensures.some
    c.rows_behind.new.reader c.rows_behind.result c.rows_behind.ensures.fault c.rows_behind.ensures.memory

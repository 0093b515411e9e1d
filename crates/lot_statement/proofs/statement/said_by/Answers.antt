use Rattle.lot_import.specs.Reading.{records_left}
use Rattle.lot_import.proofs.FileLemmas.{handed}
use Rattle.lot_statement.specs.Reading.{HasFileFault, SayAll}
use Rattle.lot_statement.proofs.StatementLemmas.{fault_behind, said_behind}
use Rattle.lot_statement.proofs.statement.said_by.Goals as goal

pub returns-in_err-pass_header-clause-fault : goal.returns-in_err-pass_header-clause-fault
returns-in_err-pass_header-clause-fault c =
    handed c.from_residual.result (HasFileFault (records_left c.args.reader.now)) c.in_err-pass_header.field-0.0 c.from_residual.ensures.1
    c.in_err-pass_header.ensures.fault

pub returns-clause-said : goal.returns-clause-said
returns-clause-said c =
    said_behind (records_left c.args.reader.now) (records_left c.pass_header.new.reader) c.in_ok-pass_header.ensures.passed SayAll c.rows_behind.result
    c.rows_behind.ensures.said

pub returns-clause-fault : goal.returns-clause-fault
returns-clause-fault c =
    fault_behind (records_left c.args.reader.now) (records_left c.pass_header.new.reader) c.in_ok-pass_header.ensures.passed c.rows_behind.result
    c.rows_behind.ensures.fault

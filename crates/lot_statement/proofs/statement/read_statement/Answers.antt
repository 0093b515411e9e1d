use Rattle.std.proofs.lemmas.Result.{IfErr-weaker, IfOk-weaker}
use Rattle.lot_import.specs.Reading.{records_left}
use Rattle.lot_statement.proofs.StatementLemmas.{fault_of_file, statement_of}
use Rattle.lot_statement.proofs.statement.read_statement.Goals as goal

pub returns-clause-said : goal.returns-clause-said
returns-clause-said c =
    IfOk-weaker c.said_by.result _ _ (statement_of c.args.bytes.now (records_left c.reader-reader.result) c.reader-reader.ensures.left)
    c.said_by.ensures.said

pub returns-clause-fault : goal.returns-clause-fault
returns-clause-fault c =
    IfErr-weaker c.said_by.result _ _ (fault_of_file c.args.bytes.now (records_left c.reader-reader.result) c.reader-reader.ensures.left)
    c.said_by.ensures.fault

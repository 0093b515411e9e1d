use Rattle.std.proofs.Common.{sym, ◌∙◌}
use Rattle.std.proofs.lemmas.Result.{IfErr-weaker, IfOk-weaker}
use Rattle.lot_import.specs.Reading.{records_left}
use Rattle.lot_import.proofs.HeaderBytes.{no_header}
use Rattle.lot_import.proofs.FileLemmas.{file_rows, records_fault}
use Rattle.lot_import.proofs.file.read_rows.Goals as goal

pub returns-clause-rows : goal.returns-clause-rows
returns-clause-rows c =
    IfOk-weaker c.rows_of.result _ _ (λ rows. file_rows c.args.bytes.now (records_left c.reader-reader.result) c.reader-reader.ensures.left rows.items)
    c.rows_of.ensures.rows

pub returns-clause-fault : goal.returns-clause-fault
returns-clause-fault c =
    IfErr-weaker c.rows_of.result _ _
    (records_fault c.args.bytes.now (records_left c.reader-reader.result) c.reader-reader.ensures.left
    (sym c.may_have_header.ensures ∙ c.if-not-may_have_header.false) c.rows_of.new.reader)
    c.rows_of.ensures.fault

pub returns-then-not-may_have_header-clause-fault : goal.returns-then-not-may_have_header-clause-fault
returns-then-not-may_have_header-clause-fault c = no_header c.args.bytes.now (sym c.may_have_header.ensures ∙ c.if-not-may_have_header.true)

use Rattle.std.proofs.Common.{filter, ap, refl}
use Rattle.std.proofs.lemmas.Result.{IfErr-weaker, IfOk-weaker}
use Rattle.lot_sheet.specs.Sheet.{is_line}
use Rattle.lot_sheet.proofs.SheetLemmas.{fault_as, rows_as}
use Rattle.lot_sheet.proofs.sheet.read_text.Goals as goal

pub returns-clause-rows : goal.returns-clause-rows
returns-clause-rows c =
    IfOk-weaker c.read_lines.result _ _
    (λ rows. rows_as c.args.form.now c.args.tables.now c.args.tables.now _ _ rows.items refl (ap (filter is_line) c.reader-reader.ensures.left))
    c.read_lines.ensures.rows

pub returns-clause-fault : goal.returns-clause-fault
returns-clause-fault c =
    IfErr-weaker c.read_lines.result _ _
    (λ fault. fault_as c.args.form.now c.args.tables.now c.args.tables.now _ _ fault refl (ap (filter is_line) c.reader-reader.ensures.left))
    c.read_lines.ensures.fault

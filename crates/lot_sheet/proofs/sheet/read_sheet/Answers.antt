use Rattle.std.proofs.Common.{refl}
use Rattle.std.proofs.lemmas.Result.{IfErr-weaker, IfOk-weaker}
use Rattle.lot_profile.specs.declared.file.Encoding.TheVariants.{Utf8}
use Rattle.lot_sheet.proofs.SheetLemmas.{fault_as, in_encoding, rows_as}
use Rattle.lot_sheet.proofs.sheet.read_sheet.Goals as goal

pub returns-in-Utf8-clause-rows : goal.returns-in-Utf8-clause-rows
returns-in-Utf8-clause-rows c =
    IfOk-weaker c.read_text.result _ _
    (λ rows. rows_as c.args.form.now c.as_slice.result.now c.args.tables.now _ _ rows.items c.as_slice.ensures
    (in_encoding c.args.form.now c.args.bytes.now c.args.bytes.now Utf8 c.in-Utf8.is refl))
    c.read_text.ensures.rows

pub returns-in-Utf8-clause-fault : goal.returns-in-Utf8-clause-fault
returns-in-Utf8-clause-fault c =
    IfErr-weaker c.read_text.result _ _
    (λ fault. fault_as c.args.form.now c.as_slice.result.now c.args.tables.now _ _ fault c.as_slice.ensures
    (in_encoding c.args.form.now c.args.bytes.now c.args.bytes.now Utf8 c.in-Utf8.is refl))
    c.read_text.ensures.fault

use Rattle.std.proofs.Common.{IsTrue}
use Rattle.lot_sheet.proofs.ColumnLemmas.{meets_same}
use Rattle.lot_sheet.proofs.column.meets.Goals as goal

pub returns : goal.returns
returns c =
    meets_same (IsTrue c.meets_all.result) c.args.form.now _ _ _ _ c.args.conditions.now c.header.ensures c.fields.ensures c.meets_all.ensures

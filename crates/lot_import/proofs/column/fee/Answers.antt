use Rattle.std.proofs.Common.{sym, ◌∙◌}
use Rattle.lot_import.proofs.RowLemmas.{fee_said}
use Rattle.lot_import.proofs.column.fee.Goals as goal

pub returns-else-is_empty : goal.returns-else-is_empty
returns-else-is_empty c =
    fee_said c.args.field.now c.args.cause c.rate.result (sym c.is_empty.ensures ∙ c.if-is_empty.false) c.rate.ensures

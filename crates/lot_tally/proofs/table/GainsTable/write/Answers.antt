use Rattle.std.proofs.Common.{refl}
use Rattle.lot_tally.proofs.RowLemmas.{table_end}
use Rattle.lot_tally.proofs.table.GainsTable.write.Goals as goal

pub returns-clause-table : goal.returns-clause-table
returns-clause-table g c by form sales table =
    (_, table_end by form sales c.args.self.now c.args.self.now.by.now refl table, c.print.ensures.lines)

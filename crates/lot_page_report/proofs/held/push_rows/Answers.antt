use Rattle.std.proofs.Common.{arith}
use Rattle.std.specs.Option.{option_copied}
use Rattle.lot_report.proofs.EachLemmas.{item_at}
use Rattle.lot_page_report.proofs.HeldLemmas.{row_behind}
use Rattle.lot_page_report.proofs.held.push_rows.Goals as goal

pub loop-row-preserved : goal.loop-row-preserved
loop-row-preserved c =
    row_behind c.args.totals.now.entries (option_copied c.loop-row.before) c.row-item.result _ _ _ _ _ _
    (item_at c.args.rows.now c.loop-row.row-index c.row-item.result (omega arith) c.row-item.is) c.in_ok-push_account_front.ensures
    c.in_ok-push_row.ensures c.loop-row.invariant

use Rattle.std.proofs.Common.{map, take}
use Rattle.sqlite.specs.Held.{state}
use Rattle.lot_stored.specs.Kept.{numbered}
use Rattle.lot_stored.specs.Rows.{sale_row}
use Rattle.lot_audit.proofs.SalesLemmas.{Came}
use Rattle.lot_audit.proofs.sales.sales_follow.Given as goal

-- the rows of the sales so far came
abbrev pub invariant-sales : goal.invariant-sales
invariant-sales g l =
    Came l.fn.cursor (state g.S.Store l.fn.conn) l.cursor (map sale_row (numbered l.number (take l.sale-index l.sales))) (state g.S.Store l.conn)

use Rattle.std.proofs.Common.{◌≡◌, ◌++◌, take}
use Rattle.lot_write.specs.Writes.{sales_written}
use Rattle.lot_write.proofs.booked.push_sales.Given as goal

abbrev pub invariant-loop-posting : goal.invariant-loop-posting
invariant-loop-posting l = l.writes.items ≡ l.fn.writes.items ++ sales_written l.number (take l.posting-index l.sales)

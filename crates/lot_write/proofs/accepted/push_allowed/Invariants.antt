use Rattle.std.proofs.Common.{◌≡◌, ◌++◌, map, take}
use Rattle.lot_stored.specs.Rows.{allowed_rows}
use Rattle.lot_write.specs.declared.write.Write.TheVariants as write
use Rattle.lot_write.proofs.accepted.push_allowed.Given as goal

abbrev pub invariant-loop-currency : goal.invariant-loop-currency
invariant-loop-currency l = record {
  place : l.place ≡ l.currency-index;
  rows : l.writes.items ≡ l.fn.writes.items ++ map write.Allowed (allowed_rows l.account 0 (take l.currency-index l.currencies));
}

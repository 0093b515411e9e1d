use Rattle.std.proofs.Common.{◌≡◌, drop}
use Rattle.std.specs.Prelude.{◌↔◌}
use Rattle.lot_stored.specs.Rows.{allowed_rows}
use Rattle.lot_audit.proofs.has.are_rows_of.Given as goal

-- all rows are those of the currencies where those that are left are
abbrev pub invariant-rows : goal.invariant-rows
invariant-rows l =
    (l.rows ≡ allowed_rows l.account 0 l.currencies) ↔ (drop l.place l.rows ≡ allowed_rows l.account l.place (drop l.place l.currencies))

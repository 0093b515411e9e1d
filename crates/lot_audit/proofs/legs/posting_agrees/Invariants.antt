use Rattle.std.proofs.Common.{◌≤◌, drop, length}
use Rattle.std.specs.Prelude.{◌↔◌}
use Rattle.lot_audit.specs.Legs.{AreAlike}
use Rattle.lot_audit.proofs.legs.posting_agrees.Given as goal

-- all are alike where those that are left are
abbrev pub invariant-rows : goal.invariant-rows
invariant-rows l =
    (l.at ≤ length l.legs)
    × (AreAlike l.posting l.rows l.legs ↔ AreAlike l.posting (drop l.row-index l.rows) (drop l.at l.legs))

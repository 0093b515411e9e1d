use Rattle.std.proofs.Common.{◌≡◌, false, length}
use Rattle.lot_field.specs.Days.{IsShort, no_date, read_parts}
use Rattle.lot_field.proofs.days.read_parts.Given as goal

-- the parts that are left read the rest
abbrev pub invariant-loop-left : goal.invariant-loop-left
invariant-loop-left l =
    (read_parts l.behind_number l.left l.date l.rest ≡ read_parts false l.parts no_date l.text) × IsShort l.date

abbrev pub decreases-loop-left : goal.decreases-loop-left
decreases-loop-left l = length l.left

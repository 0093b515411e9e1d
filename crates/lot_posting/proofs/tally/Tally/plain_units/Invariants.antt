use Rattle.std.proofs.Common.{◌≡◌}
use Rattle.std.specs.Map.{lookup}
use Rattle.lot_book.specs.Leg.{same_position}
use Rattle.lot_posting.specs.Tally.{plain}
use Rattle.lot_posting.proofs.tally.Tally.plain_units.Given as goal

-- what is listed of the position stands in the rows that are left
abbrev pub invariant-loop-position : goal.invariant-loop-position
invariant-loop-position l =
    lookup (same_position (plain l.account l.commodity)) l.position-iterator
    ≡ lookup (same_position (plain l.account l.commodity)) l.self.positions.entries

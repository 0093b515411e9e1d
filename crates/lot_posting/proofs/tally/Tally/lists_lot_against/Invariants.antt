use Rattle.std.proofs.Common.{◌≡◌}
use Rattle.std.specs.List.{list_any}
use Rattle.lot_posting.specs.Tally.{is_lot_against}
use Rattle.lot_posting.proofs.tally.Tally.lists_lot_against.Given as goal

-- no row so far is of such a lot
abbrev pub invariant-loop-position : goal.invariant-loop-position
invariant-loop-position l =
    list_any (is_lot_against l.account l.commodity l.units) l.position-iterator
    ≡ list_any (is_lot_against l.account l.commodity l.units) l.self.positions.entries

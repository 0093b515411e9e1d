use Rattle.std.proofs.Common.{◌≡◌, ◌++◌}
use Rattle.std.specs.List.{AllByRecursion}
use Rattle.lot_audit.proofs.compare.are_told.Given as goal

-- the rows so far tell it, and the others are left
abbrev pub invariant-rows : goal.invariant-rows
invariant-rows g l =
    (l.yielded ++ l.row-iterator.rest.items ≡ l.initial.row-iterator.rest.items)
    × AllByRecursion (g.R.ToldRow.Tells l.known) l.yielded

use Rattle.std.proofs.Common.{◌≡◌, ◌++◌, map}
use Rattle.std.specs.List.{AllByRecursion}
use Rattle.lot_book.specs.Holding.{entry_of}
use Rattle.lot_view.proofs.HoldingLemmas.{KeepsNoZeros}
use Rattle.lot_view.proofs.view.View.holdings.Given as goal
use Rattle.lot_view.specs.Holdings.{entries_of}

-- the rows so far and those of the accounts that are left are those of all, and no account holds a zero if none of those that
-- are left does
abbrev pub invariant-loop-account : goal.invariant-loop-account
invariant-loop-account l = record {
  all : map entry_of l.rows.items ++ entries_of l.account-iterator ≡ entries_of l.self.held.entries;
  no_zeros : AllByRecursion KeepsNoZeros l.account-iterator → AllByRecursion KeepsNoZeros l.self.held.entries;
}

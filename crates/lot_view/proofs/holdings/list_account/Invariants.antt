use Rattle.std.proofs.Common.{◌≡◌, ◌++◌, map}
use Rattle.lot_inv.specs.Inventory.{as_entries}
use Rattle.lot_book.specs.Holding.{entry_of}
use Rattle.lot_view.proofs.holdings.list_account.Given as goal
use Rattle.lot_view.specs.Holdings.{entries_in}

-- the rows so far and those of what is left are those before and those of all that is held
abbrev pub invariant-loop-commodity : goal.invariant-loop-commodity
invariant-loop-commodity l =
    map entry_of l.rows.items ++ entries_in l.account (as_entries l.commodity-iterator.rest.items)
    ≡ map entry_of l.fn.rows.items ++ entries_in l.account (as_entries l.fn.held.items)

-- Whether a posting passes all checks of its account.
use Rattle.std.specs.Prelude.{Bool, true, ◌||◌, Option, None, Some, ℤ}
use Rattle.lot_command.specs.declared.transaction.Amount.{Amount}
use Rattle.lot_book.specs.declared.standing.Standing.{Standing}
use Rattle.lot_book.specs.Refusals.{bars_amount, closed_before, opens_after}

-- whether a posting of that day fails one of the checks of its account, which stands so
abbrev pub is_unfit : ℤ → Option Standing → Option Amount → Bool
is_unfit day None amount = true
is_unfit day (Some standing) amount =
    opens_after day (Some standing) || (closed_before day (Some standing) || bars_amount (Some standing) amount)

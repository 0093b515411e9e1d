-- The pair of a posting.
use Rattle.std.specs.Prelude.{ℕ, suc, List, Option, None, Some, slice_get}
use Rattle.lot_book.specs.declared.change.Pair.{Pair}
use Rattle.lot_command.specs.declared.command.Command.{Command}
use Rattle.lot_command.specs.declared.command.Command.TheVariants.{Transaction}
use Rattle.lot_command.specs.declared.transaction.Amount.{Amount}
use Rattle.lot_command.specs.declared.transaction.Posting.{Posting}

abbrev pub pair : List ℕ → List ℕ → Pair
pair account commodity = record { account = account; commodity = commodity }

abbrev pub pair_with : List ℕ → Option Amount → Option Pair
pair_with account None = None
pair_with account (Some amount) = Some (pair account amount.commodity)

abbrev pub pair_of : Option Posting → Option Pair
pair_of None = None
pair_of (Some posting) = pair_with posting.account posting.amount

-- the account and the commodity of a posting of a command, by its place from 1, if it has both
abbrev pub pair_at : Command → ℕ → Option Pair
pair_at (Transaction t) (suc index) = pair_of (slice_get t.postings index)
pair_at _ _ = None

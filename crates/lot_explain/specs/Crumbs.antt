-- What is said of crumbs: the bound that one wants, and by how much one is beyond a bound.
use Rattle.std.specs.Prelude.{Bool, true, false, List, [], ℕ, Option, Some, ℤ, pos, ◌-ℤ◌, ◌*ℤ◌, ◌≤ℤ◌, unsigned_abs}
use Rattle.lot_command.specs.declared.command.Command.{Command}
use Rattle.lot_command.specs.declared.command.Command.TheVariants.{Transaction}
use Rattle.lot_command.specs.declared.transaction.Posting.{Posting}
use Rattle.lot_command.specs.declared.transaction.Transaction.{Transaction as TransactionOf}
use Rattle.lot_completion.specs.Turn.{StandsByForm}
use Rattle.lot_completion.specs.declared.turn.Proposal.{Proposal}
use Rattle.lot_completion.specs.declared.turn.Proposal.TheVariants as proposal
use Rattle.lot_num.specs.Amount.{one}
use Rattle.lot_rounding.specs.Rounding.{IsBound, IsWithin}
use Rattle.lot_rounding.specs.declared.asked.RowCash.{RowCash}

-- a bound that a crumb is within, and no smaller one
pub record IsLeastBound (crumb bound : ℤ) : Type 0 where
  pub within : IsWithin bound crumb
  pub least : (other : ℤ) → IsBound other → IsWithin other crumb → bound ≤ℤ other

-- by how much a crumb, sign aside, is more than a bound
abbrev pub excess : ℤ → ℤ → ℤ
excess bound crumb = pos (unsigned_abs crumb) -ℤ bound *ℤ pos one

-- the postings of a command, if it is a transaction
abbrev pub postings_in : Command → List Posting
postings_in (Transaction t) = t.postings
postings_in _ = []

-- the text of an entry is that of a completion of a transaction, by form
abbrev pub IsByFormIn : List ℕ → Option RowCash → TransactionOf → Type 0
IsByFormIn text cash t = (stands : TransactionOf) × StandsByForm (Some text) cash t stands

-- what is tried in the place of a command is the completion that stands
abbrev pub is_standing : Proposal → Bool
is_standing (proposal.Standing stands) = true
is_standing _ = false

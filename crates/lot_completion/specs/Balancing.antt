-- What is told of a command that is refused for crumbs, where no account takes them: what would balance it.
use Rattle.std.specs.Prelude.{◌≡◌, ℕ, true, List, [], None, ℤ, codes}
use Rattle.lot_command.specs.declared.command.Command.{Command}
use Rattle.lot_command.specs.declared.command.Command.TheVariants.{Transaction}
use Rattle.lot_command.specs.declared.transaction.Transaction.{Transaction as TransactionOf}
use Rattle.lot_book.specs.declared.refusal.Refusal.{Refusal}
use Rattle.lot_book.specs.declared.verdict.Verdict.{Verdict}
use Rattle.lot_book.specs.declared.verdict.Verdict.TheVariants.{Refused}
use Rattle.lot_book.specs.Balance.{elided_postings, residuals, weights_in}
use Rattle.lot_book.specs.Booking.{All, Booked, BooksAllUnder, TieRule}
use Rattle.lot_book.specs.Facts.{Facts}
use Rattle.lot_book.specs.Refusals.{not_balanced}
use Rattle.lot_completion.specs.Completion.{IsCompletion}
use Rattle.lot_completion.specs.Turn.{is_for_crumbs}
use Rattle.lot_completion.specs.declared.watch.Note.{Note}
use Rattle.lot_completion.specs.declared.watch.Note.TheVariants as note
use Rattle.lot_rounding.specs.Nearest.{most_decimals}

-- the postings of a transaction are booked on what a book says, and it is balanced then, or an elided posting takes up the rest
pub record IsBalanced (ties : TieRule) (facts : Facts) (t : TransactionOf) : Type 0 where
  pub booked : List Booked
  pub books : BooksAllUnder ties facts t.day [] 1 t.postings (All booked)
  pub balanced : not_balanced (elided_postings 1 t.postings) (residuals (weights_in booked)) ≡ None

-- a transaction completes another with these crumbs, each to the last decimal, and is balanced
pub record Balances (ties : TieRule) (facts : Facts) (account : List ℕ) (t : TransactionOf) (crumbs : List (List ℕ × ℤ))
    (completed : TransactionOf) : Type 0 where
  pub completion : IsCompletion ties facts account most_decimals t crumbs completed
  pub balanced : IsBalanced ties facts completed

-- the account that stands for one that takes crumbs
abbrev pub placeholder : List ℕ
placeholder = codes "Equity:Rounding"

-- of a transaction that is refused for crumbs it is told what balances it, and of no other command anything
pub record WouldBalance (ties : TieRule) (facts : Facts) (command : Command) (verdict : Verdict) (told : Note) : Type 0 where
  pub t : TransactionOf
  pub is : command ≡ Transaction t
  pub refusal : Refusal
  pub refused : verdict ≡ Refused refusal
  pub for_crumbs : is_for_crumbs refusal ≡ true
  pub crumbs : List (List ℕ × ℤ)
  pub completed : TransactionOf
  pub balances : Balances ties facts placeholder t crumbs completed
  pub tells : told ≡ note.Untaken (record { transaction = completed; crumbs = crumbs })

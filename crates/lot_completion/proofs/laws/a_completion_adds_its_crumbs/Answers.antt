use Rattle.std.proofs.Common.{[], subst}
use Rattle.lot_book.specs.Booking.{All, BooksAllUnder}
use Rattle.lot_command.specs.declared.transaction.Transaction.{Transaction as TransactionOf}
use Rattle.lot_completion.specs.Rates.{postings_of}
use Rattle.lot_completion.proofs.BalanceLemmas.{adds_crumbs}
use Rattle.lot_completion.proofs.laws.a_completion_adds_its_crumbs.Goals as goal

pub returns : goal.returns
returns c ties facts account decimals t crumbs completed is booked currency books =
    adds_crumbs ties facts t.day (postings_of is.rated) account crumbs is.booked booked currency is.books
    (subst (λ (x : TransactionOf). BooksAllUnder ties facts x.day [] 1 x.postings (All booked)) is.is books)

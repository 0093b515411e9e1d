use Rattle.std.proofs.Common.{[], subst}
use Rattle.lot_book.specs.Balance.{weights_in}
use Rattle.lot_book.specs.Booking.{All, BooksAllUnder, legs_in}
use Rattle.lot_book.specs.Currencies.{sum_in}
use Rattle.lot_command.specs.declared.transaction.Transaction.{Transaction as TransactionOf}
use Rattle.lot_completion.specs.Completion.{fill_decimals, has_products_in}
use Rattle.lot_completion.specs.Rates.{left_of, postings_of}
use Rattle.lot_completion.proofs.BalanceLemmas.{adds_crumbs}
use Rattle.lot_completion.proofs.TakenUpLemmas.{crumbs_taken_up}
use Rattle.lot_completion.proofs.laws.a_completion_balances.Goals as goal

pub returns : goal.returns
returns c ties facts account decimals t crumbs completed booked is books =
    let all = subst (λ (x : TransactionOf). BooksAllUnder ties facts x.day [] 1 x.postings (All booked)) is.is books in
    crumbs_taken_up (fill_decimals decimals t.postings) (left_of is.rated)
    (λ r. has_products_in (postings_of is.rated) (legs_in is.booked) r.0) (weights_in is.booked) crumbs (sum_in (weights_in booked)) is.are
    (λ name. adds_crumbs ties facts t.day (postings_of is.rated) account crumbs is.booked booked name is.books all)

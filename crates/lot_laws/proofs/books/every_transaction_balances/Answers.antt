-- What is left over is zero, or taken up.
use Rattle.lot_laws.proofs.LawBalance.{book_balances}
use Rattle.lot_laws.proofs.books.every_transaction_balances.Goals as goal

pub returns : goal.returns
returns c = book_balances

-- A posting to an account without matching takes no lots away, and each account of a transaction is open.
use Rattle.lot_laws.proofs.LawNone.{none_sells}
use Rattle.lot_laws.proofs.books.nothing_is_sold_under_none.Goals as goal

pub returns : goal.returns
returns c = none_sells

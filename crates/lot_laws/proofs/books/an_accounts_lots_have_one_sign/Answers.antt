-- A posting augments lots of its sign, or takes from each lot no more than is there.
use Rattle.lot_laws.proofs.LawOneSign.{book_signed}
use Rattle.lot_laws.proofs.books.an_accounts_lots_have_one_sign.Goals as goal

pub returns : goal.returns
returns c = book_signed

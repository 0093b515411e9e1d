-- Leg by leg.
use Rattle.lot_laws.proofs.LawHoldings.{holds_sum}
use Rattle.lot_laws.proofs.books.what_an_account_holds_is_the_sum_of_its_legs.Goals as goal

pub returns : goal.returns
returns c = holds_sum

-- Each sale is one of an entry, and its legs are of the posting that was booked.
use Rattle.lot_walk.proofs.SaleLegLemmas.{sale_legs}
use Rattle.lot_walk.proofs.laws.a_sale_has_the_legs_of_its_posting.Goals as goal

pub returns : goal.returns
returns c = sale_legs

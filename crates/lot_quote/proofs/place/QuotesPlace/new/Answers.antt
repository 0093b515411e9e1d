use Rattle.std.proofs.Common.{refl}
use Rattle.lot_quote.proofs.place.QuotesPlace.new.Goals as goal

pub returns-clause-begun : goal.returns-clause-begun
returns-clause-begun c = λ tables entries stand. ((tables.price, (tables, stand, refl)), c.new.ensures.start tables.price)

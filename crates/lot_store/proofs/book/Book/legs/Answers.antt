use Rattle.std.proofs.Common.{refl}
use Rattle.lot_store.proofs.book.Book.legs.Goals as goal

pub returns-clause-begun : goal.returns-clause-begun
returns-clause-begun g c = λ entries stands.
    let first = c.new-place.ensures.begun stands.tables entries stands.stand in
    record { stands = stands; prefix = first.0; goes_on = refl; behind = first.1 }

pub returns-clause-rows : goal.returns-clause-rows
returns-clause-rows g c = λ tables has. record { has = has; goes_on = refl; behind = c.new-place.ensures.rows tables }

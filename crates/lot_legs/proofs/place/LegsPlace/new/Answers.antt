use Rattle.lot_legs.proofs.PlaceLemmas.{no_leg_rows, no_legs}
use Rattle.lot_legs.proofs.place.LegsPlace.new.Goals as goal

pub returns-clause-begun : goal.returns-clause-begun
returns-clause-begun c = λ tables entries stand.
    no_legs _ tables entries c.new-days.ensures.last
    (no_leg_rows _ tables c.new-days.ensures.last (c.new-legs.ensures.start tables.leg) (c.new-days.ensures.start tables.entry))

pub returns-clause-rows : goal.returns-clause-rows
returns-clause-rows c = λ tables.
    no_leg_rows _ tables c.new-days.ensures.last (c.new-legs.ensures.start tables.leg) (c.new-days.ensures.start tables.entry)

-- The place and the connection went on from where they were.
use Rattle.sqlite.specs.Held.{state}
use Rattle.lot_walk.specs.Place.{KeepsRows, Went}
use Rattle.lot_added.specs.Added.{IsBehindAdded, IsBehindAddedRows}
use Rattle.lot_added.proofs.place.AddedPlacePlace.next.Given as goal

abbrev pub invariant-sales : goal.invariant-sales
invariant-sales g l = record {
  went : Went IsBehindAdded l.initial.self l.self (state g.S.Store l.initial.conn) (state g.S.Store l.conn);
  keeps : KeepsRows IsBehindAddedRows l.initial.self l.self (state g.S.Store l.initial.conn) (state g.S.Store l.conn);
}

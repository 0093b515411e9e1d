-- The place and the connection went on from where they were.
use Rattle.sqlite.specs.Held.{state}
use Rattle.lot_walk.specs.Gains.{IsBehindSaleRows, IsBehindSales}
use Rattle.lot_walk.specs.Place.{KeepsRows, Went}
use Rattle.lot_walk.proofs.gains.GainsPlacePlace.next.Given as goal

abbrev pub invariant-rows : goal.invariant-rows
invariant-rows g l = record {
  went : Went IsBehindSales l.initial.self l.self (state g.S.Store l.initial.conn) (state g.S.Store l.conn);
  keeps : KeepsRows IsBehindSaleRows l.initial.self l.self (state g.S.Store l.initial.conn) (state g.S.Store l.conn);
}

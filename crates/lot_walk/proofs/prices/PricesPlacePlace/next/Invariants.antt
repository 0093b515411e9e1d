-- The place and the connection went on from where they were.
use Rattle.sqlite.specs.Held.{state}
use Rattle.lot_walk.specs.Place.{KeepsRows, Went}
use Rattle.lot_walk.specs.Prices.{IsBehindPriceRows, IsBehindPrices}
use Rattle.lot_walk.proofs.prices.PricesPlacePlace.next.Given as goal

abbrev pub invariant-rows : goal.invariant-rows
invariant-rows g l = record {
  went : Went IsBehindPrices l.initial.self l.self (state g.S.Store l.initial.conn) (state g.S.Store l.conn);
  keeps : KeepsRows IsBehindPriceRows l.initial.self l.self (state g.S.Store l.initial.conn) (state g.S.Store l.conn);
}

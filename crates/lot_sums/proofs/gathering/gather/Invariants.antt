-- The rows that the walk has given are taken, and the book was read without a fault.
use Rattle.std.proofs.Common.{◌≡◌, ◌≢◌, ◌<◌}
use Rattle.lot_book_report.proofs.ReadLemmas.{IsReading}
use Rattle.lot_store.specs.declared.book.Condition.TheVariants.{NeedsReopen}
use Rattle.lot_sums.proofs.GatherLemmas.{Took}
use Rattle.lot_sums.proofs.gathering.gather.Given as goal

abbrev pub invariant-rows : goal.invariant-rows
invariant-rows g l = record {
  same_book : l.walk.book.ghost_name ≡ l.fn.walk.book.ghost_name;
  reading : IsReading g.S.Store l.fn.walk.book.now l.walk;
  usable : 0 < l.counter → l.fn.walk.book.now.condition ≢ NeedsReopen;
  took : Took g.S.Store g.P.Place.shown g.P.Place.IsGood g.P.Place.AreAll g.P.Place.IsBehind g.P.Place.AreAllRows g.P.Place.IsBehindRows
      g.T.Tally.told g.T.Tally.fits g.T.Tally.HasTaken l.fn.walk l.fn.tally l.walk l.tally;
}

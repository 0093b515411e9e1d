-- The texts of the rows that the walk has given are written, the book was read without a fault, and no call of the writer failed.
use Rattle.std.proofs.Common.{◌≡◌, ◌≢◌, ◌<◌}
use Rattle.std.specs.Prelude.{true}
use Rattle.lot_io.specs.Writes.{NoneFailed}
use Rattle.lot_book_report.proofs.ReadLemmas.{IsReading}
use Rattle.lot_store.specs.declared.book.Condition.TheVariants.{NeedsReopen}
use Rattle.lot_sums.proofs.GatherLemmas.{Took}
use Rattle.lot_page_report.proofs.ListLemmas.{HasWritten}
use Rattle.lot_page_report.proofs.list.write_list.Given as goal

abbrev pub invariant-rows : goal.invariant-rows
invariant-rows g l = record {
  same_book : l.walk.book.ghost_name ≡ l.fn.walk.book.ghost_name;
  reading : IsReading g.S.Store l.fn.walk.book.now l.walk;
  usable : 0 < l.counter → l.fn.walk.book.now.condition ≢ NeedsReopen;
  none_failed : NoneFailed (g.W.CountedWrite.calls l.fn.writer) (g.W.CountedWrite.calls l.writer);
  took : Took g.S.Store g.P.Place.shown g.P.Place.IsGood g.P.Place.AreAll g.P.Place.IsBehind g.P.Place.AreAllRows g.P.Place.IsBehindRows
      g.L.Listing.told (λ terms rows row. true) (HasWritten g.L.Listing.piece g.L.Listing.end_of g.L.Listing.HasListed (g.W.CountedWrite.contents l.fn.writer))
      l.fn.walk (l.fn.list, g.W.CountedWrite.contents l.fn.writer) l.walk (l.list, g.W.CountedWrite.contents l.writer);
}

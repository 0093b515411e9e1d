-- The sales that the walk has given are fed to the report, the book was read without a fault, and no call of the writer failed.
use Rattle.std.proofs.Common.{◌≡◌, ◌≢◌, ◌<◌, IsFalse}
use Rattle.lot_added.specs.Added.{AreAddedSaleRows, AreAddedSales, IsBehindAdded, IsBehindAddedRows}
use Rattle.lot_report.specs.Gains.{HasTaken, IsEnd, fits, is_spent, sale_lines}
use Rattle.lot_io.specs.Writes.{NoneFailed}
use Rattle.lot_book_report.proofs.FeedLemmas.{Feeds}
use Rattle.lot_book_report.proofs.ReadLemmas.{IsReading}
use Rattle.lot_book_report.specs.Gains.{sale_in}
use Rattle.lot_walk.specs.Gains.{HasLegs}
use Rattle.lot_store.specs.declared.book.Condition.TheVariants.{NeedsReopen}
use Rattle.lot_added_report.proofs.show.show_added_gains.Given as goal

abbrev pub invariant-sales : goal.invariant-sales
invariant-sales g l = record {
  same_book : l.walk.book.ghost_name ≡ l.initial.walk.book.ghost_name;
  reading : IsReading g.S.Store l.fn.book l.walk;
  usable : 0 < l.counter → l.fn.book.condition ≢ NeedsReopen;
  none_failed : NoneFailed (g.W.CountedWrite.calls l.fn.writer) (g.W.CountedWrite.calls l.writer);
  fresh : IsFalse (is_spent l.report);
  feeds : Feeds g.S.Store HasLegs AreAddedSales IsBehindAdded AreAddedSaleRows IsBehindAddedRows sale_in sale_lines fits HasTaken IsEnd
      l.fn.book l.fn.behind (g.W.CountedWrite.contents l.fn.writer) l.walk (g.W.CountedWrite.contents l.writer) l.report.progress;
}

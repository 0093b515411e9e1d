-- The holdings that the walk has given are fed to the report, the book was read without a fault, and no call of the writer failed.
use Rattle.std.proofs.Common.{◌≡◌, ◌≢◌, ◌<◌, IsFalse}
use Rattle.lot_report.specs.Holdings.{HasTaken, IsEnd, fits, is_spent, row_lines}
use Rattle.lot_io.specs.Writes.{NoneFailed}
use Rattle.lot_book_report.proofs.FeedLemmas.{Feeds}
use Rattle.lot_book_report.proofs.ReadLemmas.{IsReading}
use Rattle.lot_book_report.specs.Holdings.{valued_with}
use Rattle.lot_walk.specs.Holdings.{AreAllHoldingRows, AreHoldings, IsAnyHolding, IsBehindHoldingRows, IsBehindHoldings}
use Rattle.lot_store.specs.declared.book.Condition.TheVariants.{NeedsReopen}
use Rattle.lot_book_report.proofs.holdings.write_holdings.Given as goal

abbrev pub invariant-holdings : goal.invariant-holdings
invariant-holdings g l = record {
  same_book : l.walk.book.ghost_name ≡ l.initial.walk.book.ghost_name;
  reading : IsReading g.S.Store l.fn.book l.walk;
  usable : 0 < l.counter → l.fn.book.condition ≢ NeedsReopen;
  none_failed : NoneFailed (g.W.CountedWrite.calls l.fn.writer) (g.W.CountedWrite.calls l.writer);
  fresh : IsFalse (is_spent l.report);
  feeds : Feeds g.S.Store IsAnyHolding AreHoldings IsBehindHoldings AreAllHoldingRows IsBehindHoldingRows (valued_with l.prices) row_lines fits HasTaken IsEnd
      l.fn.book tt (g.W.CountedWrite.contents l.fn.writer) l.walk (g.W.CountedWrite.contents l.writer) l.report.progress;
}

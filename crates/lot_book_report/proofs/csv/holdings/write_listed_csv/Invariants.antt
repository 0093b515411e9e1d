-- The records of the rows so far are written, and no call of the writer failed.
use Rattle.lot_io.specs.Writes.{NoneFailed}
use Rattle.lot_book_report.proofs.ListedLemmas.{Recorded}
use Rattle.lot_book_report.specs.Csv.{columns_for}
use Rattle.lot_book_report.specs.Holdings.{valued_with}
use Rattle.lot_book_report.proofs.csv.holdings.write_listed_csv.Given as goal

abbrev pub invariant-loop-holding : goal.invariant-loop-holding
invariant-loop-holding g l = record {
  recorded : Recorded (columns_for l.prices) (valued_with l.prices) l.fn.rows.items (g.W.CountedWrite.contents l.fn.writer) l.holding-iterator.rest.items (g.W.CountedWrite.contents l.writer);
  none_failed : NoneFailed (g.W.CountedWrite.calls l.fn.writer) (g.W.CountedWrite.calls l.writer);
}

-- The rows so far were taken and written, and no call of the writer failed.
use Rattle.lot_io.specs.Writes.{NoneFailed}
use Rattle.lot_book_report.proofs.ListedLemmas.{Listed}
use Rattle.lot_book_report.specs.Holdings.{valued_with}
use Rattle.lot_book_report.proofs.holdings.write_listed.Given as goal

abbrev pub invariant-loop-holding : goal.invariant-loop-holding
invariant-loop-holding g l = record {
  listed : Listed (valued_with l.prices) l.fn.rows.items (g.W.CountedWrite.contents l.fn.writer) l.holding-iterator.rest.items l.report (g.W.CountedWrite.contents l.writer);
  none_failed : NoneFailed (g.W.CountedWrite.calls l.fn.writer) (g.W.CountedWrite.calls l.writer);
}

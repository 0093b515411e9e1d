-- The records of the rows that the walk has given are written, but for those of the last one; the book was read without a fault, and
-- no call of the writer failed.
use Rattle.std.proofs.Common.{◌≡◌, ◌≢◌}
use Rattle.std.specs.Prelude.{IfSome}
use Rattle.lot_io.specs.Writes.{NoneFailed}
use Rattle.lot_book_report.proofs.CsvLemmas.{Wrote}
use Rattle.lot_book_report.proofs.ReadLemmas.{IsRead}
use Rattle.lot_store.specs.declared.book.Condition.TheVariants.{NeedsReopen}
use Rattle.lot_store.specs.declared.walk.Stage.TheVariants.{Going}
use Rattle.lot_book_report.proofs.csv.write_csv.Given as goal

abbrev pub invariant-rows : goal.invariant-rows
invariant-rows g l = record {
  same_book : l.walk.book.ghost_name ≡ l.fn.walk.book.ghost_name;
  read : IsRead g.S.Store l.fn.walk.book.now l.walk.book.now;
  going : IfSome l.found (λ row. l.walk.stage ≡ Going);
  usable : l.fn.walk.book.now.condition ≢ NeedsReopen;
  none_failed : NoneFailed (g.W.CountedWrite.calls l.fn.writer) (g.W.CountedWrite.calls l.writer);
  wrote : Wrote g.S.Store g.P.Place.shown g.P.Place.IsGood g.P.Place.AreAll g.P.Place.IsBehind g.P.Place.AreAllRows g.P.Place.IsBehindRows
      l.header (g.R.Records.records l.records) l.fn.walk (g.W.CountedWrite.contents l.fn.writer) l.walk l.found (g.W.CountedWrite.contents l.writer);
}

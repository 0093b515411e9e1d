-- The entries that the walk has given are written and heard, the book was read without a fault, and no call of the writer failed.
use Rattle.std.proofs.Common.{◌≡◌, ◌≢◌, ◌<◌, IsFalse}
use Rattle.lot_report.specs.Journal.{is_spent}
use Rattle.lot_io.specs.Writes.{NoneFailed}
use Rattle.lot_book_report.proofs.JournalLemmas.{HasWritten}
use Rattle.lot_book_report.proofs.ReadLemmas.{IsReading}
use Rattle.lot_store.specs.declared.book.Condition.TheVariants.{NeedsReopen}
use Rattle.lot_book_report.proofs.journal.write_entries.Given as goal

abbrev pub invariant-entries : goal.invariant-entries
invariant-entries g l = record {
  same_book : l.walk.book.ghost_name ≡ l.initial.walk.book.ghost_name;
  reading : IsReading g.S.Store l.fn.book l.walk;
  usable : 0 < l.counter → l.fn.book.condition ≢ NeedsReopen;
  none_failed : NoneFailed (g.W.CountedWrite.calls l.fn.writer) (g.W.CountedWrite.calls l.writer);
  fresh : IsFalse (is_spent l.journal);
  written : HasWritten g.S.Store l.fn.book (g.W.CountedWrite.contents l.fn.writer) (g.H.Hear.has_heard l.fn.heard) (g.H.Hear.has_heard l.heard) l.walk (g.W.CountedWrite.contents l.writer);
}

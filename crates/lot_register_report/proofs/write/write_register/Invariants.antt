-- The legs that the walk has given are taken, but for the last one; the book was read without a fault, and no call of the writer
-- failed.
use Rattle.std.proofs.Common.{◌≡◌, ◌≢◌}
use Rattle.std.specs.Prelude.{IfSome}
use Rattle.lot_io.specs.Writes.{NoneFailed}
use Rattle.lot_book_report.proofs.ReadLemmas.{IsRead}
use Rattle.lot_register_report.proofs.WriteLemmas.{Wrote}
use Rattle.lot_store.specs.declared.book.Condition.TheVariants.{NeedsReopen}
use Rattle.lot_store.specs.declared.walk.Stage.TheVariants.{Going}
use Rattle.lot_register_report.proofs.write.write_register.Given as goal

abbrev pub invariant-legs : goal.invariant-legs
invariant-legs g l = record {
  same_book : l.walk.book.ghost_name ≡ l.fn.walk.book.ghost_name;
  read : IsRead g.S.Store l.fn.walk.book.now l.walk.book.now;
  going : IfSome l.found (λ leg. l.walk.stage ≡ Going);
  usable : l.fn.walk.book.now.condition ≢ NeedsReopen;
  none_failed : NoneFailed (g.W.CountedWrite.calls l.fn.writer) (g.W.CountedWrite.calls l.writer);
  wrote : Wrote g.S.Store l.fn.walk l.fn.register (g.W.CountedWrite.contents l.fn.writer) l.walk l.found l.register (g.W.CountedWrite.contents l.writer);
}

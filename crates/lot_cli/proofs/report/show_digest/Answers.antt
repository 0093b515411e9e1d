-- The line behind that of a verified book is the digest of the book.
use Rattle.std.proofs.Common.{[], Err, ap, subst}
use Rattle.std.proofs.lemmas.Result.{err_from_is_err_and}
use Rattle.std.specs.Io.KnownBytes.{Appends}
use Rattle.lot_stored.specs.Rows.{entry_rows}
use Rattle.lot_store.specs.Extent.{extent_of}
use Rattle.lot_book_report.proofs.DumpLemmas.{same_stop}
use Rattle.lot_book_report.specs.Dump.{digest_of}
use Rattle.lot_cli.proofs.ReportLemmas.{digest_cut, digest_stops}
use Rattle.lot_cli.specs.Reports.{digest_text}
use Rattle.lot_cli.proofs.report.show_digest.Goals as goal

pub returns-in_err-digest-clause-some : goal.returns-in_err-digest-clause-some
returns-in_err-digest-clause-some g c =
    let fault = err_from_is_err_and c.from_residual.result c.from_residual.ensures.1 in
    let read = c.in_err-digest.ensures in
    rw (fault.1, fault.2) (
      extent_of 0 [],
      [],
      digest_stops (digest_of (extent_of 0 []) []) (g.W.CountedWrite.contents c.args.writer.now) c.in_err-digest.field-0.0 read.fault
          (λ is. read.reads.going (ap Err is)),
    )

pub returns-in_err-digest-clause-reads : goal.returns-in_err-digest-clause-reads
returns-in_err-digest-clause-reads g c =
    let fault = err_from_is_err_and c.from_residual.result c.from_residual.ensures.1 in
    rw (fault.1, fault.2) (same_stop g.S.Store c.args.book.now c.digest_book.new.book c.in_err-digest.field-0.0 c.in_err-digest.ensures.reads)

pub returns-in_err-print_behind-clause-shows : goal.returns-in_err-print_behind-clause-shows
returns-in_err-print_behind-clause-shows g c =
    let fault = err_from_is_err_and c.from_residual-in_err-print_behind.result c.from_residual-in_err-print_behind.ensures.1 in
    let line = c.in_err-print_behind.ensures in
    rw (fault.1, fault.2) (record {
      holds = λ clean entries stands.
          digest_cut c.in_ok-digest.digest (digest_of (extent_of stands.stand.place entries) (entry_rows 1 entries))
          (c.in_ok-digest.ensures.digest.holds clean entries stands) _ _ c.in_err-print_behind.field-0.0 line.fault line.bytes;
    })

pub returns-clause-shows : goal.returns-clause-shows
returns-clause-shows g c = record {
  holds = λ clean entries stands.
      subst (λ (digest : _). Appends (g.W.CountedWrite.contents c.args.writer.now) (g.W.CountedWrite.contents c.print_behind.new.writer) (digest_text digest))
      (c.in_ok-digest.ensures.digest.holds clean entries stands) c.in_ok-print_behind.ensures.bytes;
}

pub returns-clause-some : goal.returns-clause-some
returns-clause-some g c =
    let some = c.in_ok-digest.ensures.some in (
      some.0,
      some.1,
      subst (λ (digest : _). Appends (g.W.CountedWrite.contents c.args.writer.now) (g.W.CountedWrite.contents c.print_behind.new.writer) (digest_text digest))
          some.2 c.in_ok-print_behind.ensures.bytes,
    )

pub returns-clause-rows : goal.returns-clause-rows
returns-clause-rows g c = record {
  holds = λ clean tables has.
      let some = c.in_ok-digest.ensures.rows.holds clean tables has in (
        some.0,
        some.1,
        subst (λ (digest : _). Appends (g.W.CountedWrite.contents c.args.writer.now) (g.W.CountedWrite.contents c.print_behind.new.writer) (digest_text digest))
            some.2 c.in_ok-print_behind.ensures.bytes,
      );
}

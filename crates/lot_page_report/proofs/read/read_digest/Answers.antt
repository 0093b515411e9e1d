-- The digest is read where it is asked for.
use Rattle.std.proofs.Common.{None, Some, ap, refl, rules}
use Rattle.std.proofs.lemmas.Result.{err_from_is_err_and}
use Rattle.lot_book_report.proofs.ReadLemmas.{read_none, was_read}
use Rattle.lot_page_report.proofs.MadeLemmas.{book_unwritten}
use Rattle.lot_page_report.proofs.ReadLemmas.{book_in_range, made_of, unread}
use Rattle.lot_page_report.proofs.read.read_digest.Goals as goal

pub returns-in-Entries : goal.returns-in-Entries
returns-in-Entries g c = λ usable.
    made_of g.S.Store _ _ _ _ c.args.book.now _ None (read_none g.S.Store c.args.book.now _ (search rules)) usable
    (record { holds = λ clean entries stands. rw (c.in-Entries.is) refl })
    (record { holds = λ clean tables has. rw (c.in-Entries.is) refl })
    tt

pub returns-in_err-digest_book-in-Digest : goal.returns-in_err-digest_book-in-Digest
returns-in_err-digest_book-in-Digest g c = λ usable.
    let fault = err_from_is_err_and c.from_residual.result c.from_residual.ensures.1 in
    rw (fault.1, fault.2)
    (unread g.S.Store _ _ _ _ c.args.book.now c.digest_book.new.book c.in_err-digest_book-in-Digest.field-0.0 c.in_err-digest_book-in-Digest.ensures.reads
    (book_unwritten c.in_err-digest_book-in-Digest.field-0.0 c.in_err-digest_book-in-Digest.ensures.fault)
    (λ clean entries stands is. book_in_range c.in_err-digest_book-in-Digest.field-0.0 c.in_err-digest_book-in-Digest.ensures.fault is))

pub returns-in_ok-digest_book-in-Digest : goal.returns-in_ok-digest_book-in-Digest
returns-in_ok-digest_book-in-Digest g c = λ usable.
    made_of g.S.Store _ _ _ _ c.args.book.now c.digest_book.new.book _
    (was_read g.S.Store c.args.book.now c.digest_book.new.book _ c.in_ok-digest_book-in-Digest.ensures.reads) usable
    (record { holds = λ clean entries stands. rw (c.in-Digest.is) (ap Some (c.in_ok-digest_book-in-Digest.ensures.digest.holds clean entries stands)) })
    (record {
      holds = λ clean tables has.
          let (extent, is, same) = c.in_ok-digest_book-in-Digest.ensures.rows.holds clean tables has in
          rw (c.in-Digest.is) (extent, is, ap Some same);
    })
    tt

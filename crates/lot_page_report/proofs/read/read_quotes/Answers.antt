-- The prices are read where there are months.
use Rattle.std.proofs.Common.{[], Err, None, ap, refl, rules}
use Rattle.std.proofs.lemmas.Result.{err_from_is_err_and}
use Rattle.lot_book_report.proofs.ReadLemmas.{read_none, was_read}
use Rattle.lot_page_report.proofs.ReadLemmas.{made_of, unread}
use Rattle.lot_page_report.proofs.read.read_quotes.Goals as goal

pub returns-in_err-read_some_quotes-in-Some : goal.returns-in_err-read_some_quotes-in-Some
returns-in_err-read_some_quotes-in-Some g c = λ usable.
    let fault = err_from_is_err_and c.from_residual.result c.from_residual.ensures.1 in
    rw (fault.1, fault.2)
    (unread g.S.Store _ _ _ _ c.args.book.now c.read_some_quotes.new.book c.in_err-read_some_quotes-in-Some.field-0.0 c.in_err-read_some_quotes-in-Some.ensures.reads
    c.in_err-read_some_quotes-in-Some.ensures.unwritten
    (λ clean entries stands is. c.in_err-read_some_quotes-in-Some.ensures.range.holds clean entries stands (ap Err is)))

pub returns-in_ok-read_some_quotes-in-Some : goal.returns-in_ok-read_some_quotes-in-Some
returns-in_ok-read_some_quotes-in-Some g c = λ usable.
    made_of g.S.Store _ _ _ _ c.args.book.now c.read_some_quotes.new.book _
    (was_read g.S.Store c.args.book.now c.read_some_quotes.new.book _ c.in_ok-read_some_quotes-in-Some.ensures.reads) usable
    (rw (c.in-Some.is) c.in_ok-read_some_quotes-in-Some.ensures.book) (rw (c.in-Some.is) c.in_ok-read_some_quotes-in-Some.ensures.tables)
    (rw (c.in-Some.is) c.in_ok-read_some_quotes-in-Some.ensures.any)

pub returns-in-None : goal.returns-in-None
returns-in-None g c = λ usable.
    made_of g.S.Store _ _ _ _ c.args.book.now _ None (read_none g.S.Store c.args.book.now _ (search rules)) usable
    (record { holds = λ clean entries stands. (stands.tables.price, (stands.tables, stands.stand, refl), rw (c.in-None.is) tt) })
    (record { holds = λ clean tables has. (tables.price, refl, rw (c.in-None.is) tt) })
    ([], rw (c.in-None.is) tt)

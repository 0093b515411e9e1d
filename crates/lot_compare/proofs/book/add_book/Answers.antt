-- What it gained is read first, and then what it holds.
use Rattle.std.proofs.lemmas.Result.{err_from_is_err_and}
use Rattle.lot_book_report.proofs.ReadLemmas.{reads_then, was_read}
use Rattle.lot_compare.proofs.CompareLemmas.{holds_first, holds_second}
use Rattle.lot_compare.proofs.book.add_book.Goals as goal

pub returns-clause-gains : goal.returns-clause-gains
returns-clause-gains g c =
    holds_first g.S.Store c.args.book.now c.add_gains.new.book c.add_held.new.book c.add_held.result _ c.in_ok-add_gains.ensures.sums c.add_held.ensures.reads

pub returns-clause-held : goal.returns-clause-held
returns-clause-held g c =
    holds_second g.S.Store c.args.book.now c.add_gains.new.book c.add_held.new.book c.add_held.result _ c.in_ok-add_gains.ensures.reads c.add_held.ensures.reads c.add_held.ensures.sums

pub returns-clause-reads : goal.returns-clause-reads
returns-clause-reads g c =
    reads_then g.S.Store c.args.book.now c.add_gains.new.book c.add_held.new.book
    (was_read g.S.Store c.args.book.now c.add_gains.new.book _ c.in_ok-add_gains.ensures.reads) c.add_held.result c.add_held.ensures.reads

pub returns-in_err-add_gains-clause-reads : goal.returns-in_err-add_gains-clause-reads
returns-in_err-add_gains-clause-reads g c =
    let fault = err_from_is_err_and c.from_residual.result c.from_residual.ensures.1 in rw (fault.1, fault.2) c.in_err-add_gains.ensures.reads

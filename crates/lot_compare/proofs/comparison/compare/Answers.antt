-- The lines are those of the amounts of both books.
use Rattle.lot_compare.proofs.CompareLemmas.{both_differ, shows_cut, shows_ok}
use Rattle.lot_compare.proofs.comparison.compare.Goals as goal

pub returns-in-Ok-print_both-clause-shows : goal.returns-in-Ok-print_both-clause-shows
returns-in-Ok-print_both-clause-shows g c =
    shows_ok g.S.Store g.T.Store c.args.new.now c.add_book.new.book c.args.old.now c.add_book-2.new.book
    c.new-gains.result.sums.entries c.add_book.new.gains.sums.entries c.add_book-2.new.gains.sums.entries
    c.new-held.result.sums.entries c.add_book.new.held.sums.entries c.add_book-2.new.held.sums.entries
    _ _ c.in-Ok-print_both.field-0
    (both_differ g.S.Store g.T.Store c.args.new.now c.add_book.new.book c.args.old.now c.add_book-2.new.book
    c.new-gains.result.sums.entries c.add_book.new.gains.sums.entries c.add_book-2.new.gains.sums.entries
    c.new-held.result.sums.entries c.add_book.new.held.sums.entries c.add_book-2.new.held.sums.entries
    c.new-gains.ensures c.new-held.ensures c.in-Ok.ensures.gains c.in-Ok.ensures.held c.in-Ok-add_book.ensures.gains c.in-Ok-add_book.ensures.held)
    c.in-Ok-print_both.ensures.lines

pub returns-clause-shows : goal.returns-clause-shows
returns-clause-shows g c =
    shows_cut g.S.Store g.T.Store c.args.new.now c.add_book.new.book c.args.old.now c.add_book-2.new.book
    c.new-gains.result.sums.entries c.add_book.new.gains.sums.entries c.add_book-2.new.gains.sums.entries
    c.new-held.result.sums.entries c.add_book.new.held.sums.entries c.add_book-2.new.held.sums.entries
    _ _ c.in-Err-print_both.fault
    (both_differ g.S.Store g.T.Store c.args.new.now c.add_book.new.book c.args.old.now c.add_book-2.new.book
    c.new-gains.result.sums.entries c.add_book.new.gains.sums.entries c.add_book-2.new.gains.sums.entries
    c.new-held.result.sums.entries c.add_book.new.held.sums.entries c.add_book-2.new.held.sums.entries
    c.new-gains.ensures c.new-held.ensures c.in-Ok.ensures.gains c.in-Ok.ensures.held c.in-Ok-add_book.ensures.gains c.in-Ok-add_book.ensures.held)
    c.in-Err-print_both.ensures.lines

pub returns-in-Ok-print_both-clause-lines : goal.returns-in-Ok-print_both-clause-lines
returns-in-Ok-print_both-clause-lines g c = (_, c.in-Ok-print_both.ensures.lines)

pub returns-clause-lines : goal.returns-clause-lines
returns-clause-lines g c = (_, c.in-Err-print_both.ensures.lines)

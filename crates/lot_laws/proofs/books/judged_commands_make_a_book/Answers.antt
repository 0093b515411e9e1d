-- By each judgement, and by its one outcome.
use Rattle.lot_laws.proofs.JudgedLaws.{judged_alike_by, judged_book, judged_book_in, some_judged_by}
use Rattle.lot_laws.proofs.books.judged_commands_make_a_book.Goals as goal

pub returns-clause-some : goal.returns-clause-some
returns-clause-some c = some_judged_by

pub returns-clause-one : goal.returns-clause-one
returns-clause-one c = judged_alike_by

pub returns-clause-book : goal.returns-clause-book
returns-clause-book c = judged_book

pub returns-clause-book_in : goal.returns-clause-book_in
returns-clause-book_in c = judged_book_in

-- Reading, judging and reporting have one result each, and what is kept of each is a prefix of the whole.
use Rattle.lot_check.proofs.LawAnswers.{one_answer, replies_begin, lines_begin, kept_begins}
use Rattle.lot_check.proofs.laws.an_input_has_one_answer.Goals as goal

pub returns-clause-one : goal.returns-clause-one
returns-clause-one c = one_answer

pub returns-clause-replies : goal.returns-clause-replies
returns-clause-replies c = replies_begin

pub returns-clause-lines : goal.returns-clause-lines
returns-clause-lines c = lines_begin

pub returns-clause-memory : goal.returns-clause-memory
returns-clause-memory c = kept_begins

-- By its parts, one after another.
use Rattle.lot_read.proofs.PostingLemmas.{one_posting, some_posting, posting_inside}
use Rattle.lot_read.proofs.laws.a_posting_means_one_posting.Goals as goal

pub returns-clause-one : goal.returns-clause-one
returns-clause-one c = one_posting

pub returns-clause-some : goal.returns-clause-some
returns-clause-some c = some_posting

pub returns-clause-inside : goal.returns-clause-inside
returns-clause-inside c = posting_inside

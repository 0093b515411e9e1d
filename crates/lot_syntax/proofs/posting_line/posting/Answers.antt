-- By the forms of a posting.
use Rattle.lot_syntax.proofs.PostingLemmas.{posting_says, posting_none}
use Rattle.lot_syntax.proofs.posting_line.posting.Goals as goal

pub returns-clause-is : goal.returns-clause-is
returns-clause-is c = posting_says c.args.tokens.now c.written.result c.written.ensures

pub returns-clause-none : goal.returns-clause-none
returns-clause-none c = posting_none c.args.tokens.now c.written.result c.written.ensures

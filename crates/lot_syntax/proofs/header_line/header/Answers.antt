-- By the forms of a line that isn't indented.
use Rattle.lot_syntax.proofs.HeaderLemmas.{header_says, header_unknown, header_known, header_some, header_none}
use Rattle.lot_syntax.proofs.header_line.header.Goals as goal

pub returns-clause-is : goal.returns-clause-is
returns-clause-is c = header_says c.args.tokens.now c.written.result c.written.ensures

pub returns-clause-unknown : goal.returns-clause-unknown
returns-clause-unknown c = header_unknown c.args.tokens.now c.written.result c.written.ensures

pub returns-clause-known : goal.returns-clause-known
returns-clause-known c = header_known c.args.tokens.now c.written.result c.written.ensures

pub returns-clause-some : goal.returns-clause-some
returns-clause-some c = header_some c.args.tokens.now c.written.result c.written.ensures

pub returns-clause-none : goal.returns-clause-none
returns-clause-none c = header_none c.args.tokens.now c.written.result c.written.ensures

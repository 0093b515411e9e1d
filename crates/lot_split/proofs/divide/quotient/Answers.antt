-- Where the quotient is whole, the division leaves nothing.
use Rattle.std.proofs.Common.{rules}
use Rattle.lot_split.proofs.NumberLemmas.{rem_nothing}
use Rattle.lot_split.proofs.divide.quotient.Goals as goal

pub returns-else-dividend-divisor-eq0-clause-none : goal.returns-else-dividend-divisor-eq0-clause-none
returns-else-dividend-divisor-eq0-clause-none c none whole same =
    let nothing = rem_nothing whole c.args.dividend c.args.divisor c.requires.some same in
    absurd (search (rules, nothing, c.if-dividend-divisor-eq0.false))

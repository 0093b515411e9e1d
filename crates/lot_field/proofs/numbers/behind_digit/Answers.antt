-- A separator follows.
use Rattle.lot_field.proofs.NumberLemmas.{by-separator}
use Rattle.lot_field.proofs.numbers.behind_digit.Goals as goal

pub returns-then-left-ne0 : goal.returns-then-left-ne0
returns-then-left-ne0 c =
    by-separator c.behind.result c.args.text.now c.args.grouping.now c.args.digit c.args.left
    c.in-len1-up.len_at_least c.if-first-digit.false c.if-left-eq0.true c.if-left-ne0.true c.behind.ensures

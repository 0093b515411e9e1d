-- The last byte is a CR, or another, or there is none.
use Rattle.std.proofs.Common.{ap, sym, ◌∙◌}
use Rattle.std.proofs.lemmas.Bool.{eq-eqb, ne_eqb}
use Rattle.lot_syntax.specs.Line.{without_return}
use Rattle.lot_syntax.proofs.LineLemmas.{return_last, return_other}
use Rattle.lot_syntax.proofs.lines.without_return.Goals as goal

pub returns-in-Some : goal.returns-in-Some
returns-in-Some c =
    sym (ap without_return c.in-Some.ensures.cases.0 ∙ return_last c.in-Some.front.now c.in-Some.last.now (eq-eqb _ 13 c.if-last-eq13.true))

pub returns-in_default : goal.returns-in_default
returns-in_default c =
    c.in-Some.ensures.cases.0
    ∙ sym (ap without_return c.in-Some.ensures.cases.0 ∙ return_other c.in-Some.front.now c.in-Some.last.now (ne_eqb _ 13 c.if-last-eq13.false))

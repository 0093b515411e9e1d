-- The last byte is left out where it is a blank.
use Rattle.std.proofs.Common.{◌-◌, ◌<◌, ◌∙◌, sym, arith, length, length-take-le}
use Rattle.lot_field.proofs.FieldLemmas.{trailing-step, trailing-stop}
use Rattle.lot_field.proofs.field.without_trailing.Goals as goal

pub loop-rest-preserved : goal.loop-rest-preserved
loop-rest-preserved c =
    let rest = c.loop-rest.rest.now in
    let some : 0 < length rest = omega arith in
    (trailing-step rest some (sym c.is_blank.ensures ∙ c.if-not-is_blank.false) ∙ c.loop-rest.invariant.0, omega (arith, length-take-le (length rest - 1) rest, c.loop-rest.invariant.1))

pub returns-then-not-is_blank-clause-value : goal.returns-then-not-is_blank-clause-value
returns-then-not-is_blank-clause-value c =
    let rest = c.loop-rest.rest.now in
    let some : 0 < length rest = omega arith in
    trailing-stop rest some (sym c.is_blank.ensures ∙ c.if-not-is_blank.true) ∙ c.loop-rest.invariant.0

-- By the number, where there is one.
use Rattle.std.proofs.Common.{pos, ◌<ℤ◌}
use Rattle.lot_field.proofs.TestLemmas.{none-number, some-number}
use Rattle.lot_field.proofs.tests.is_above.Goals as goal

pub returns-in-Some : goal.returns-in-Some
returns-in-Some c =
    some-number (λ units. pos 0 <ℤ units) c.args.form.now c.args.field.now c.in-Some.number c.is_positive.result
    c.in-Some.ensures.some c.in-Some.ensures.every c.is_positive.ensures

pub returns-in-None : goal.returns-in-None
returns-in-None c = none-number (λ units. pos 0 <ℤ units) c.args.form.now c.args.field.now c.in-None.ensures.every

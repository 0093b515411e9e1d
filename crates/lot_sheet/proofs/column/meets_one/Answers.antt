use Rattle.lot_field.specs.Tests.{Holds}
use Rattle.lot_field.specs.declared.tests.Test.{Test}
use Rattle.lot_sheet.proofs.ListLemmas.{not_true, one_more_in}
use Rattle.lot_sheet.proofs.column.meets_one.Goals as goal

pub loop-test-preserved : goal.loop-test-preserved
loop-test-preserved c =
    let l = c.loop-test in
    one_more_in (λ (t : Test). Holds t c.args.form.now.nothing c.args.form.now.numbers c.args.field.now → ⊥) c.args.tests.now
    c.as_slice-test-items.result.now c.as_slice-test-items.ensures l.test-index c.test-item.result c.loop-test-test.true c.test-item.is l.invariant
    (λ h. not_true c.holds.result c.if-holds.false (c.holds.ensures.1 h))

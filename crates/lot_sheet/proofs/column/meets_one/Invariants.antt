-- None of the tests so far holds.
use Rattle.std.proofs.Common.{ℕ, ◌<◌, get_or}
use Rattle.lot_field.specs.Tests.{Holds}
use Rattle.lot_field.specs.declared.tests.Test.{Test}
use Rattle.lot_sheet.proofs.column.meets_one.Given as goal

abbrev pub invariant-loop-test : goal.invariant-loop-test
invariant-loop-test l =
    (k : ℕ) (d : Test) → k < l.test-index → Holds (get_or l.tests k d) l.form.nothing l.form.numbers l.field → ⊥

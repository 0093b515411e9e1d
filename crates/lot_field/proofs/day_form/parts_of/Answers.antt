-- Where no part begins the rest, no parts spell the text.
use Rattle.std.proofs.Common.{◌<◌, length, arith}
use Rattle.std.proofs.lemmas.Bool.Decides.{nat_tests}
use Rattle.lot_field.proofs.FormLemmas.{none-spelled}
use Rattle.lot_field.proofs.day_form.parts_of.Goals as goal

pub returns-in_default-clause-bad : goal.returns-in_default-clause-bad
returns-in_default-clause-bad c = λ bad parts spelled.
    let test = c.is_empty.ensures in
    let went_on = c.loop-rest-test.true in
    let some : 0 < length c.loop-rest.rest.now = grind (arith, nat_tests, test, went_on) in
    none-spelled c.args.text.now c.loop-rest.rest.now c.loop-rest.parts parts c.loop-rest.invariant.0 c.loop-rest.invariant.1 some
    c.in_default.ensures.none spelled

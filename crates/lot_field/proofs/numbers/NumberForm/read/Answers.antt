-- The sign and the magnitude are those of the field.
use Rattle.std.proofs.Common.{◌≡◌, rules}
use Rattle.lot_field.specs.Numbers.{sign_and_magnitude}
use Rattle.lot_field.proofs.numbers.NumberForm.read.Goals as goal

pub returns-clause-every : goal.returns-clause-every
returns-clause-every c = λ number is.
    let signs = c.args.self.now.signs in
    let field = c.args.field.now in
    let sign : c.sign_and_magnitude-sign.result.0 ≡ (sign_and_magnitude signs field).0 = search rules in
    let magnitude : c.sign_and_magnitude-sign.result.1.now ≡ (sign_and_magnitude signs field).1 = search rules in
    c.of_magnitude.ensures.every number (rw (sign, magnitude) is)

use Rattle.std.proofs.Common.{refl}
use Rattle.std.proofs.lemmas.Result.{err_from_is_err_and}
use Rattle.lot_register.proofs.LeftLemmas.{staying_leaves}
use Rattle.lot_register.proofs.left.Lefts.add.Goals as goal

pub returns-in_err-pair-clause-leaves : goal.returns-in_err-pair-clause-leaves
returns-in_err-pair-clause-leaves c legs has =
    let fault = err_from_is_err_and c.from_residual.result c.from_residual.ensures.1 in rw (fault.1, fault.2) tt

pub returns-clause-leaves : goal.returns-clause-leaves
returns-clause-leaves c legs has =
    staying_leaves legs c.args.leg.now c.add_units.new.self c.add_units.result
    (c.add_units.ensures.leaves legs c.args.leg.now c.in_ok-pair.ensures refl has)

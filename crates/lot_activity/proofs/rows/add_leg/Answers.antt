use Rattle.std.proofs.Common.{◌∷◌, ◌++◌, [], refl}
use Rattle.std.proofs.lemmas.Result.{err_from_is_err_and}
use Rattle.lot_tally.proofs.SumLemmas.{fitting_adds}
use Rattle.lot_activity.specs.Rows.{leg_fits}
use Rattle.lot_activity.specs.Table.{HasRows}
use Rattle.lot_activity.proofs.rows.add_leg.Goals as goal

pub returns-in_err-key : goal.returns-in_err-key
returns-in_err-key c legs has =
    let fault = err_from_is_err_and c.from_residual.result c.from_residual.ensures.1 in rw (fault.1, fault.2) tt

pub returns : goal.returns
returns c legs has =
    fitting_adds (leg_fits c.args.length legs c.args.leg.now) (HasRows c.args.length (legs ++ c.args.leg.now ∷ []) c.add_units.new.rows) c.add_units.result
    (c.add_units.ensures c.args.length legs c.args.leg.now c.in_ok-key.ensures refl has)

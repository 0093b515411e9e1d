use Rattle.std.proofs.Common.{◌∷◌, ◌++◌, [], refl}
use Rattle.std.proofs.lemmas.Result.{err_from_is_err_and}
use Rattle.lot_tally.proofs.SumLemmas.{fitting_adds}
use Rattle.lot_reconcile.specs.Balance.{AreBalances, leg_fits}
use Rattle.lot_reconcile.proofs.rows.add_leg.Goals as goal

pub returns-in_err-commodity : goal.returns-in_err-commodity
returns-in_err-commodity c lines legs are =
    let fault = err_from_is_err_and c.from_residual.result c.from_residual.ensures.1 in rw (fault.1, fault.2) tt

pub returns : goal.returns
returns c lines legs are =
    fitting_adds (leg_fits lines legs c.args.leg.now) (AreBalances lines (legs ++ c.args.leg.now ∷ []) c.add_units.new.rows.entries) c.add_units.result
    (c.add_units.ensures lines legs c.args.leg.now c.in_ok-commodity.ensures refl are)

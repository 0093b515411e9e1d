use Rattle.std.proofs.Common.{Err}
use Rattle.std.proofs.lemmas.Result.{err_from_is_err_and}
use Rattle.sqlite.specs.Held.{state}
use Rattle.lot_table.specs.declared.fault.Fault.TheVariants.{Damaged, Device}
use Rattle.lot_walk.specs.Prices.{ArePricesAt, IsAnyPrice, IsBehindPrices, shown_price}
use Rattle.lot_walk.proofs.PlaceLemmas.{steps_after}
use Rattle.lot_walk.proofs.prices.PricesPlacePlace.next.Goals as goal

pub returns-in_err-step-clause-steps : goal.returns-in_err-step-clause-steps
returns-in_err-step-clause-steps g c =
    let fault = err_from_is_err_and c.from_residual.result c.from_residual.ensures.1 in
    rw (fault.1, fault.2)
    (steps_after IsBehindPrices shown_price IsAnyPrice ArePricesAt Damaged Device c.args.self.now c.rows.self c.step.new.self (state g.S.Store c.args.conn.now)
    (state g.S.Store c.rows.conn) (state g.S.Store c.step.new.conn) (Err c.in_err-step.field-0.0) c.rows.invariant.went c.in_err-step.ensures.progress.0)

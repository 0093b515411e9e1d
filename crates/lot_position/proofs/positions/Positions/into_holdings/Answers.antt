-- The rows are those of what is kept, in its order.
use Rattle.std.proofs.Common.{◌≡◌, FitsSigned, of_z, rules, subst, sym, to_z}
use Rattle.std.specs.Int.{w128}
use Rattle.std.proofs.lemmas.Int.{to_z-of_z}
use Rattle.std.proofs.lemmas.Result.{err_from_is_err_and}
use Rattle.lot_num.specs.Amount.{IsUnits}
use Rattle.lot_position.proofs.RowLemmas.{all_given, out_of_range, rows_in_range, rows_listed, unfit}
use Rattle.lot_report.specs.declared.fault.ReportFault.TheVariants.{Range}
use Rattle.lot_position.proofs.positions.Positions.into_holdings.Goals as goal

pub returns-in_err-push_row-clause-range : goal.returns-in_err-push_row-clause-range
returns-in_err-push_row-clause-range c e day legs keeps within =
    let fits : FitsSigned w128 c.in-Some.units = search rules in
    let (fault, is, same) = err_from_is_err_and c.from_residual.result c.from_residual.ensures.1 in
    let at : c.in_err-push_row.field-0.0 ≡ Range = cc in
    out_of_range day legs c.loop-position.rows.items c.loop-position.position-iterator _ c.args.self c.in-Some.position c.in-Some.units
    c.into_iter-position-iterator.ensures.into_iter_gives.5 c.loop-position.invariant c.in-Some.ensures.steps
    (λ own. unfit c.in-Some.position (to_z w128 (of_z w128 c.in-Some.units)) c.loop-position.rows.items c.push_row.new.rows.items c.in_err-push_row.field-0.0
    c.in_err-push_row.ensures at (subst IsUnits (sym (to_z-of_z w128 c.in-Some.units fits)) own)) keeps within

pub returns-clause-lists : goal.returns-clause-lists
returns-clause-lists c day legs keeps =
    rows_listed day legs c.loop-position.rows.items c.args.self c.into_iter-position-iterator.ensures.into_iter_gives.5
    (all_given c.loop-position.rows.items c.loop-position.position-iterator c.args.self.sums c.loop-position.invariant
    c.in-None.ensures.steps.0)
    keeps

pub returns-clause-in_range : goal.returns-clause-in_range
returns-clause-in_range c day legs keeps =
    rows_in_range day legs c.loop-position.rows.items c.loop-position.invariant.1
    (rows_listed day legs c.loop-position.rows.items c.args.self c.into_iter-position-iterator.ensures.into_iter_gives.5
    (all_given c.loop-position.rows.items c.loop-position.position-iterator c.args.self.sums c.loop-position.invariant
    c.in-None.ensures.steps.0)
    keeps)

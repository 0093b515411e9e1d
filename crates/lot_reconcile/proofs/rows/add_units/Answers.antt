use Rattle.std.proofs.Common.{◌∙◌}
use Rattle.lot_reconcile.proofs.BalanceLemmas.{kept_balance, leg_added, leg_unfit}
use Rattle.lot_reconcile.proofs.rows.add_units.Goals as goal

pub returns-in-Some : goal.returns-in-Some
returns-in-Some c lines legs leg own of_leg are =
    leg_added lines legs leg c.args.rows.now c.set_row.new.rows c.args.commodity c.args.units _ _ c.set_row.result own of_leg are
    (c.unwrap_or-balance.ensures
    ∙ kept_balance lines legs c.args.rows.now.entries c.args.commodity c.copied.result c.of_statement.result are (c.copied.ensures ∙ c.get.ensures.value) c.of_statement.ensures)
    c.in-Some.ensures c.set_row.ensures.entries c.set_row.ensures.cause

pub returns-in-None : goal.returns-in-None
returns-in-None c lines legs leg own of_leg are =
    leg_unfit lines legs leg c.args.commodity c.args.units _ own of_leg
    (c.unwrap_or-balance.ensures
    ∙ kept_balance lines legs c.args.rows.now.entries c.args.commodity c.copied.result c.of_statement.result are (c.copied.ensures ∙ c.get.ensures.value) c.of_statement.ensures)
    c.in-None.ensures

use Rattle.std.proofs.Common.{◌∙◌}
use Rattle.lot_activity.specs.Rows.{row_of}
use Rattle.lot_activity.proofs.RowLemmas.{kept_flow, leg_added, leg_unfit}
use Rattle.lot_activity.proofs.rows.add_units.Goals as goal

pub returns-in-Some : goal.returns-in-Some
returns-in-Some c length legs leg own of_leg has =
    leg_added length legs leg c.args.rows.now c.set_row.new.rows c.args.key c.args.units _ _ c.set_row.result own of_leg has
    (c.unwrap_or-flow.ensures
    ∙ kept_flow length legs c.args.rows.now c.args.key (row_of length leg) c.copied.result c.none.result own has (c.copied.ensures ∙ c.get.ensures.value) c.none.ensures)
    c.in-Some.ensures c.set_row.ensures.entries c.set_row.ensures.cause

pub returns-in-None : goal.returns-in-None
returns-in-None c length legs leg own of_leg has =
    leg_unfit length legs leg c.args.units _ of_leg
    (c.unwrap_or-flow.ensures
    ∙ kept_flow length legs c.args.rows.now c.args.key (row_of length leg) c.copied.result c.none.result own has (c.copied.ensures ∙ c.get.ensures.value) c.none.ensures)
    c.in-None.ensures

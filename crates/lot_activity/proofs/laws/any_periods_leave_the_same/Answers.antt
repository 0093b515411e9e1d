use Rattle.std.proofs.Common.{◌∙◌, sym}
use Rattle.lot_activity.proofs.laws.any_periods_leave_the_same.Goals as goal

pub returns : goal.returns
returns c length other asked legs rows other_rows pair are also =
    c.rows_add_up_to_the_legs.ensures length asked legs rows pair are
    ∙ sym (c.rows_add_up_to_the_legs.ensures other asked legs other_rows pair also)

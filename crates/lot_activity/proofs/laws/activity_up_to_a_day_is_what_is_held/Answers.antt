-- Legs at lots leave nothing in a position of plain units.
use Rattle.std.specs.Prelude.{◌*ℤ◌, pos}
use Rattle.std.proofs.Common.{◌∙◌, ap}
use Rattle.lot_num.specs.Amount.{one}
use Rattle.lot_legs.specs.Legs.{dated_legs}
use Rattle.lot_activity.specs.Scope.{all_up_to}
use Rattle.lot_activity.specs.Table.{plain_at}
use Rattle.lot_activity.proofs.LawLemmas.{plain_up_to}
use Rattle.lot_activity.proofs.laws.activity_up_to_a_day_is_what_is_held.Goals as goal

pub returns : goal.returns
returns c length last entries rows pair are =
    c.rows_add_up_to_the_legs.ensures length (all_up_to last) (dated_legs entries) rows pair are
    ∙ ap (λ z. z *ℤ pos one)
    (plain_up_to last pair (dated_legs entries)
    ∙ c.legs_up_to_a_day_are_those_of_the_entries_up_to_it.ensures entries last (plain_at pair))

use Rattle.std.proofs.Common.{ap, ◌∙◌}
use Rattle.lot_base.specs.Day.{day_text}
use Rattle.lot_base.proofs.DayLemmas.{date_text-day_text}
use Rattle.lot_base.proofs.day.DayDisplay.fmt.Goals as goal

pub returns-clause-writes : goal.returns-clause-writes
returns-clause-writes g c plain ok =
    let text = date_text-day_text c.date.result c.date.ensures.year ∙ ap day_text c.date.ensures.number in
    rw (← text) (c.fmt.ensures.writes plain ok)

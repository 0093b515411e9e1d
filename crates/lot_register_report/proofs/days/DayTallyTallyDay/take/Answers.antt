use Rattle.std.proofs.Common.{refl}
use Rattle.lot_register_report.proofs.DayLemmas.{day_taken}
use Rattle.lot_register_report.proofs.days.DayTallyTallyDay.take.Goals as goal

pub returns : goal.returns
returns c = λ asked days taken. (refl, day_taken days c.args.day c.args.self.now _ taken c.rises_to-self.ensures refl)

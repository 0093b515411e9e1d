use Rattle.lot_noted.specs.Book.{asked_in}
use Rattle.lot_register_report.proofs.PlaceLemmas.{begins_in_order, rows_in_order}
use Rattle.lot_register_report.proofs.place.in_order.Goals as goal

pub returns-clause-legs : goal.returns-clause-legs
returns-clause-legs c = λ entries never_fall.
    let asked = asked_in c.args.scope.now in
    begins_in_order asked entries never_fall c.in_ok-place.place c.in_ok-place.ensures.begun (c.legs_stay_where_days_never_fall.ensures asked entries never_fall)

pub returns-clause-rows : goal.returns-clause-rows
returns-clause-rows c = λ tables. rows_in_order (asked_in c.args.scope.now) tables c.in_ok-place.place c.in_ok-place.ensures.rows

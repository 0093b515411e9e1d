-- There is room for an entry where a command is accepted.
use Rattle.std.proofs.Common.{subst}
use Rattle.lot_book.specs.Openings.{ties_on}
use Rattle.lot_ledger.specs.Decide.{Comes}
use Rattle.lot_view.specs.View.{known, known_with_openings}
use Rattle.lot_laws.proofs.RecordedBook.{room_where_decided}
use Rattle.lot_check.proofs.batch.judge.Goals as goal

pub record-requires : goal.record-requires
record-requires c =
    let ties = ties_on (known_with_openings c.args.view) in
    room_where_decided ties (known c.args.view) c.args.command.now c.in-Ok-Accept.change.legs
    (subst (Comes ties (known c.args.view) c.args.command.now) c.in-Ok-Accept.field-0-is c.in-Ok-Accept.ensures.decided).0

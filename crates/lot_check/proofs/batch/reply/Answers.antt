use Rattle.lot_check.proofs.RunLemmas.{reply_stops}
use Rattle.lot_view.specs.View.{known_with_openings}
use Rattle.lot_check.proofs.batch.reply.Goals as goal

pub returns-in-Err-clause-replies : goal.returns-in-Err-clause-replies
returns-in-Err-clause-replies g c =
    reply_stops (known_with_openings c.args.view) (known_with_openings c.in-Ok.view) c.args.command.now c.in-Ok.verdict c.args.number _ _ _ c.in-Ok.ensures.judged c.in-Err.ensures.bytes c.in-Err.ensures.fault

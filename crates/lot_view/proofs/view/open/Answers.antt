-- The account stands as its opening says, and every other as before.
use Rattle.lot_view.proofs.ViewLemmas.{opened_set}
use Rattle.lot_view.proofs.view.open.Goals as goal

pub returns : goal.returns
returns c =
    opened_set c.args.standings.now c.insert.new.self c.args.opening.now c.in_ok-copy-2.field-0 c.in_ok-copy.field-0
    c.in_ok-copy-2.ensures c.in_ok-copy.ensures c.in_ok-insert.ensures.updates.0

-- What is left of other things stays.
use Rattle.std.specs.Prelude.{Some}
use Rattle.lot_sequence.specs.Cancel.{bought}
use Rattle.lot_sequence.proofs.LeftLemmas.{others_kept}
use Rattle.lot_sequence.proofs.cancel.put_back.Goals as goal

pub returns-clause-others : goal.returns-clause-others
returns-clause-others c =
    others_kept c.args.left.now c.insert.new.self c.mark_of.result (bought c.args.trade.now) (Some c.args.places) c.mark_of.ensures c.in_ok-insert.ensures.updates.0

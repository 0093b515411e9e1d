-- What is left of other things stays.
use Rattle.std.specs.Prelude.{None}
use Rattle.lot_sequence.specs.Cancel.{bought}
use Rattle.lot_sequence.proofs.LeftLemmas.{others_kept}
use Rattle.lot_sequence.proofs.cancel.take_out.Goals as goal

pub returns-in-Some-clause-others : goal.returns-in-Some-clause-others
returns-in-Some-clause-others c =
    others_kept c.args.left.now c.remove.new.self c.mark_of.result (bought c.args.trade.now) None c.mark_of.ensures c.remove.ensures.updates.0

use Rattle.lot_register.proofs.LeftLemmas.{nothing_left}
use Rattle.lot_register.proofs.left.Lefts.new.Goals as goal

pub returns : goal.returns
returns c = nothing_left (record { sums = c.new.result }) c.new.ensures.empty

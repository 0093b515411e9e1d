use Rattle.lot_tally.proofs.RowLemmas.{none_yet}
use Rattle.lot_tally.proofs.counted.Counted.new.Goals as goal

pub returns : goal.returns
returns c = (none_yet c.new.result c.new.ensures.empty, c.new-2.ensures)

use Rattle.std.proofs.Common.{refl}
use Rattle.lot_activity.proofs.RowLemmas.{none_yet}
use Rattle.lot_activity.proofs.table.ActivityTable.new.Goals as goal

pub returns : goal.returns
returns c = (refl, tt, none_yet c.args.length c.new.result c.new.ensures.empty)

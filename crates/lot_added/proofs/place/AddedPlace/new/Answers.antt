use Rattle.std.proofs.Common.{refl}
use Rattle.lot_added.proofs.PlaceLemmas.{no_added_rows, none_added}
use Rattle.lot_added.proofs.place.AddedPlace.new.Goals as goal

pub returns-clause-begun : goal.returns-clause-begun
returns-clause-begun c = none_added _ c.args.behind refl c.new.ensures.begun

pub returns-clause-rows : goal.returns-clause-rows
returns-clause-rows c = no_added_rows _ c.args.behind refl c.new.ensures.rows

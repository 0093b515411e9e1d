-- No sum is kept.
use Rattle.std.proofs.Common.{refl}
use Rattle.lot_position.proofs.KeepLemmas.{keeps_nothing}
use Rattle.lot_position.proofs.positions.Positions.new.Goals as goal

pub returns : goal.returns
returns c = keeps_nothing c.args.day (record { day = c.args.day; sums = c.new.result }) refl c.new.ensures.empty

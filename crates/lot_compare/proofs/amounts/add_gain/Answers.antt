use Rattle.std.proofs.Common.{arith}
use Rattle.std.proofs.lemmas.Int.{ints, to_z-of_z}
use Rattle.lot_compare.proofs.AmountLemmas.{adds_same}
use Rattle.lot_compare.proofs.amounts.add_gain.Goals as goal

pub returns-clause-added : goal.returns-clause-added
returns-clause-added c =
    adds_same c.add.result c.args.side _ _ _ _ _ _ _ c.args.gain.gain c.in_ok-year_of.ensures c.in_ok-copy.ensures (grind (arith, ints, to_z-of_z)) c.add.ensures.added

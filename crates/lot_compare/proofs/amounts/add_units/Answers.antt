use Rattle.std.proofs.Common.{◌∙◌, arith}
use Rattle.std.proofs.lemmas.Int.{ints, to_z-of_z}
use Rattle.lot_compare.proofs.AmountLemmas.{adds_same}
use Rattle.lot_compare.proofs.amounts.add_units.Goals as goal

pub returns-clause-added : goal.returns-clause-added
returns-clause-added c =
    adds_same c.add.result c.args.side _ _ _ c.args.holding.now.account _ c.args.holding.now.commodity _ c.args.holding.now.units
    (c.in_ok-new.ensures ∙ c.as_str.ensures.value) c.in_ok-copy.ensures (grind (arith, ints, to_z-of_z)) c.add.ensures.added

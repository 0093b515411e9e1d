use Rattle.std.specs.Prelude.{◌≡◌, ℤ, map, take}
use Rattle.lot_cost.specs.declared.lot_key.LotKey.{LotKey}
use Rattle.lot_csv.specs.Shares.{gain_in}
use Rattle.lot_csv.proofs.lots.gains_alike.Given as goal

-- the gains of the first legs
abbrev pub invariant-loop-leg : goal.invariant-loop-leg
invariant-loop-leg l = l.gains.items ≡ map (λ (leg : LotKey × ℤ). gain_in l.sale.units (leg, l.price)) (take l.leg-index l.legs)

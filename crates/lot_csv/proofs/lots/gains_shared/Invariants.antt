use Rattle.std.specs.Prelude.{◌≡◌, ◌++◌, ℤ, Some, map, zip}
use Rattle.std.specs.Iterator.Adapters.{zip_first, zip_second}
use Rattle.std.specs.Slice.Iter.{iter_rest}
use Rattle.lot_cost.specs.declared.lot_key.LotKey.{LotKey}
use Rattle.lot_csv.specs.Shares.{gain_in}
use Rattle.lot_csv.specs.declared.shares.LotPrice.TheVariants.{Share}
use Rattle.lot_csv.proofs.lots.gains_shared.Given as goal

-- the gains so far, and those of the legs that are left, are all gains
abbrev pub invariant-loop-leg : goal.invariant-loop-leg
invariant-loop-leg l =
    l.gains.items
    ++ map (λ (shared : (LotKey × ℤ) × ℤ). gain_in l.sale.units (shared.0, Some (Share shared.1)))
    (zip (iter_rest (zip_first l.leg-iterator)) (iter_rest (zip_second l.leg-iterator)))
    ≡ map (λ (shared : (LotKey × ℤ) × ℤ). gain_in l.sale.units (shared.0, Some (Share shared.1))) (zip l.sale.legs l.shares)

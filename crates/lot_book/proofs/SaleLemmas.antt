-- The lots of the legs of a sale.
use Rattle.std.specs.Prelude.{◌≡◌, ℕ, suc, List, [], ◌∷◌, ℤ}
use Rattle.std.proofs.Common.{refl, ap}
use Rattle.lot_cost.specs.declared.lot_key.LotKey.{LotKey}
use Rattle.lot_book.specs.Leg.{legs_at_lots}
use Rattle.lot_book.specs.Sale.{lots_in_legs}

-- legs at lots have these lots
pub lots_in_legs-lots : (entry posting : ℕ) (account commodity : List ℕ) (place : ℕ) (lots : List (LotKey × ℤ))
    → lots_in_legs (legs_at_lots entry posting account commodity place lots) ≡ lots
lots_in_legs-lots entry posting account commodity place [] = refl
lots_in_legs-lots entry posting account commodity place (lot ∷ lots) =
    ap (λ ls. lot ∷ ls) (lots_in_legs-lots entry posting account commodity (suc place) lots)

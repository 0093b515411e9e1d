-- What setting a lot does to the opening numbers.
use Rattle.std.specs.Prelude.{◌≡◌, ℕ, true, false, cond, List, None, Some, ℤ, pos}
use Rattle.std.specs.FinMap.{get, insert, remove, get-insert, get-remove}
use Rattle.std.specs.Ordering.{eq_by_cmp, int_eq}
use Rattle.lot_cost.specs.declared.lot_key.LotKey.{LotKey}
use Rattle.lot_inv.specs.Holding.{kept, opening_of}
use Rattle.lot_inv.specs.Inventory.{Opened, Position, position_cmp, with_opening}
use Rattle.lot_inv.proofs.OrderLemmas.{positions_total}

pub get-with_opening : (opened : Opened) (commodity : List ℕ) (key : LotKey) (units : ℤ) (opening : ℕ) (other : Position)
    → get (with_opening opened (commodity, Some key) units opening) other
    ≡ cond (eq_by_cmp position_cmp other (commodity, Some key)) (opening_of (kept units opening)) (get opened other)
get-with_opening opened commodity key units opening other =
    let here : Position = (commodity, Some key) in
    elim (int_eq units (pos 0)) as (λ b. get (cond b (remove opened here) (insert opened here opening)) other
    ≡ cond (eq_by_cmp position_cmp other here) (opening_of (cond b None (Some (record { units = units; opening = opening })))) (get opened other)) [
      | true ↦ get-remove positions_total opened here other
      | false ↦ get-insert positions_total opened here opening other
    ]

-- Inventories as listed units are set one after another.
use Rattle.std.specs.Prelude.{◌≡◌, ℕ, Bool, true, false, cond, List, ◌∷◌, None, Some, ℤ}
use Rattle.std.specs.FinMap.{get}
use Rattle.std.specs.List.Sorted.{IsStrictlySortedBy}
use Rattle.std.specs.Map.{keys_of, lookup}
use Rattle.std.proofs.Common.{refl, sym, ap, ◌∙◌}
use Rattle.std.proofs.lemmas.Map.Keys.{sorted_head}
use Rattle.lot_base.proofs.MapLemmas.{none_below}
use Rattle.lot_inv.specs.Inventory.{Held, Position as Place, non_zero}
use Rattle.lot_inv.proofs.LotLemmas.{same_held}
use Rattle.lot_book.specs.declared.leg.Position.{Position}
use Rattle.lot_book.specs.Leg.{position_cmp, same_position}
use Rattle.lot_book.specs.Recorded.{with_row, with_rows}
use Rattle.lot_book.proofs.HeldLemmas.{at, get-with_row, get-with_rows, settled}
use Rattle.lot_book.proofs.OrderLemmas.{one_position}

-- once the first row is set, the others are still to be
pub rows-turn : (account : List ℕ) (held : Held) (k : Position) (units : ℤ) (rows : List (Position × ℤ))
    → IsStrictlySortedBy position_cmp (k ∷ keys_of rows)
    → with_rows account (with_row account held (k, units)) rows ≡ with_rows account held ((k, units) ∷ rows)
rows-turn account held k units rows sorted = same_held _ _ (λ place.
    let later = lookup (same_position (at account place)) rows in
    get-with_rows account (with_row account held (k, units)) rows place
    ∙ ap (settled later) (get-with_row account held (k, units) place)
    ∙ by place (same_position (at account place) k) refl
    ∙ sym (get-with_rows account held ((k, units) ∷ rows) place))
  where
    by : (place : Place) (b : Bool) → same_position (at account place) k ≡ b
        → settled (lookup (same_position (at account place)) rows) (cond b (non_zero units) (get held place))
        ≡ settled (cond b (Some units) (lookup (same_position (at account place)) rows)) (get held place)
    by place true e =
        let gone : lookup (same_position (at account place)) rows ≡ None =
        ap (λ q. lookup (same_position q) rows) (one_position (at account place) k e)
        ∙ none_below position_cmp k rows (sorted_head position_cmp k (keys_of rows) sorted) in
        ap (λ later. settled later (non_zero units)) gone
    by place false e = refl

-- The lots among rows in order are in order, and are what the rows have under their keys.
use Rattle.std.specs.Prelude.{◌≡◌, ℕ, true, false, cond, ◌&&◌, List, [], ◌∷◌, None, Some, ℤ}
use Rattle.std.specs.declared.cmp.Ordering.TheVariants.{Less, Greater}
use Rattle.std.specs.BTreeMap.{is_at}
use Rattle.std.specs.FinMap.{entries, entries_sorted, get-entries}
use Rattle.std.specs.FinMap.Entries.{is_sorted-where_key}
use Rattle.std.specs.List.{AllByRecursion}
use Rattle.std.specs.List.Sorted.{IsStrictlySortedBy}
use Rattle.std.specs.Map.{keys_of, lookup}
use Rattle.std.specs.Ordering.{is_eq, ordering_then}
use Rattle.std.proofs.Common.{refl, sym, ap, subst, ◌∙◌}
use Rattle.std.proofs.lemmas.Map.Lookups.{exact_bytes}
use Rattle.lot_cost.specs.declared.lot_key.LotKey.{LotKey}
use Rattle.lot_cost.specs.CostSpec.{fits}
use Rattle.lot_inv.specs.Inventory.{Held, Position, position_cmp, lots_in, lots_of, matching, MatchingLotsAreDistinct, LotsAreThoseOfTheMap}
use Rattle.lot_cost.specs.LotKey.{lot_cmp}
use Rattle.lot_cost.proofs.OrderLemmas.{eq_then, is_equal}
use Rattle.lot_inv.proofs.InventoryLemmas.{never_less}
use Rattle.lot_base.proofs.MapLemmas.{in_order, keys_sorted, found_by_order}
use Rattle.lot_base.specs.Text.{text_cmp}

below_in : (commodity : List ℕ) (key : LotKey) (rows : List (Position × ℤ))
    → AllByRecursion (λ (other : Position). position_cmp (commodity, Some key) other ≡ Less) (keys_of rows)
    → AllByRecursion (λ (other : LotKey). lot_cmp key other ≡ Less) (keys_of (lots_in commodity rows))
below_in commodity key [] h = tt
below_in commodity key (((other, None), units) ∷ rows) h = below_in commodity key rows h.1
below_in commodity key (((other, Some k), units) ∷ rows) h =
    let o = text_cmp commodity other in
    elim (is_eq o) as (λ b. is_eq o ≡ b → AllByRecursion (λ (y : LotKey). lot_cmp key y ≡ Less) (keys_of (cond b ((k, units) ∷ lots_in commodity rows) (lots_in commodity rows)))) [
      | true ↦ λ e. (ap (λ r. ordering_then r (lot_cmp key k)) (sym (is_equal o e)) ∙ h.0, below_in commodity key rows h.1)
      | false ↦ λ e. below_in commodity key rows h.1
    ] refl

sorted_in : (commodity : List ℕ) (rows : List (Position × ℤ)) → IsStrictlySortedBy position_cmp (keys_of rows) → IsStrictlySortedBy lot_cmp (keys_of (lots_in commodity rows))
unfolding IsStrictlySortedBy
sorted_in commodity [] h = tt
sorted_in commodity (((other, None), units) ∷ rows) h = sorted_in commodity rows h.1
sorted_in commodity (((other, Some k), units) ∷ rows) h =
    let o = text_cmp commodity other in
    elim (is_eq o) as (λ b. is_eq o ≡ b → IsStrictlySortedBy lot_cmp (keys_of (cond b ((k, units) ∷ lots_in commodity rows) (lots_in commodity rows)))) [
      | true ↦ λ e. (
        below_in commodity k rows (subst (λ c. AllByRecursion (λ (y : Position). position_cmp (c, Some k) y ≡ Less) (keys_of rows)) (sym (exact_bytes commodity other (is_equal o e))) h.0),
        sorted_in commodity rows h.1,
      )
      | false ↦ λ e. sorted_in commodity rows h.1
    ] refl

pub sorted_lots_of : (held : Held) (commodity : List ℕ) → IsStrictlySortedBy lot_cmp (keys_of (lots_of held commodity))
unfolding lots_of
sorted_lots_of held commodity = sorted_in commodity (entries held) (keys_sorted position_cmp (entries held) (entries_sorted held))

pub sorted_matching : MatchingLotsAreDistinct
sorted_matching held commodity spec =
    keys_sorted lot_cmp (matching held commodity spec)
    (is_sorted-where_key lot_cmp (fits spec) (lots_of held commodity) (in_order lot_cmp (lots_of held commodity) (sorted_lots_of held commodity)))

found_among : (commodity : List ℕ) (key : LotKey) (rows : List (Position × ℤ))
    → lookup (is_at (lot_cmp key)) (lots_in commodity rows) ≡ lookup (is_at (position_cmp (commodity, Some key))) rows
found_among commodity key [] = refl
found_among commodity key (((other, None), units) ∷ rows) =
    let o = text_cmp commodity other in
    found_among commodity key rows
    ∙ sym (ap (λ b. cond b (Some units) (lookup (is_at (position_cmp (commodity, Some key))) rows)) (eq_then o Greater ∙ never_less (is_eq o)))
found_among commodity key (((other, Some k), units) ∷ rows) =
    let o = text_cmp commodity other in
    let r = lot_cmp key k in
    elim (is_eq o) as (λ b. lookup (is_at (lot_cmp key)) (cond b ((k, units) ∷ lots_in commodity rows) (lots_in commodity rows))
    ≡ cond (b && is_eq r) (Some units) (lookup (is_at (lot_cmp key)) (lots_in commodity rows))) [ true ↦ refl | false ↦ refl ]
    ∙ ap (cond (is_eq o && is_eq r) (Some units)) (found_among commodity key rows)
    ∙ sym (ap (λ b. cond b (Some units) (lookup (is_at (position_cmp (commodity, Some key))) rows)) (eq_then o r))

pub lots_of-get : LotsAreThoseOfTheMap
unfolding lots_of
lots_of-get held commodity key =
    found_among commodity key (entries held)
    ∙ sym (found_by_order position_cmp (commodity, Some key) (entries held))
    ∙ sym (get-entries held (commodity, Some key))

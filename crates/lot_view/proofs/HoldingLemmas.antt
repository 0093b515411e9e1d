-- The rows of what accounts hold: their order, and what is found in them.
use Rattle.std.specs.Prelude.{◌≡◌, ℕ, Bool, true, false, cond, ◌&&◌, List, [], ◌∷◌, ◌++◌, map, Option, None, Some, ℤ, option_and_then}
use Rattle.std.specs.declared.cmp.Ordering.{Ordering}
use Rattle.std.specs.declared.cmp.Ordering.TheVariants.{Less}
use Rattle.std.specs.BTreeMap.{is_at}
use Rattle.std.specs.Cmp.{tied_itself}
use Rattle.std.specs.FinMap.{entries, entries_sorted, get, get-empty, get-entries}
use Rattle.std.specs.List.{AllByRecursion}
use Rattle.std.specs.List.Sorted.{IsStrictlySortedBy}
use Rattle.std.specs.Map.{keys_of, lookup}
use Rattle.std.specs.Option.{option_or, unwrap_or}
use Rattle.std.specs.Ordering.{is_eq, ordering_then}
use Rattle.std.proofs.Common.{refl, sym, ap, subst, ◌∙◌}
use Rattle.std.proofs.lemmas.Cmp.{nat_list_cmp_total}
use Rattle.std.proofs.lemmas.Map.Lookups.{exact_bytes}
use Rattle.lot_base.specs.Text.{text_cmp}
use Rattle.lot_base.proofs.MapLemmas.{found_by_order, keys_sorted, none_below}
use Rattle.lot_base.proofs.OptionLemmas.{or_none}
use Rattle.lot_inv.specs.Inventory.{Position as Place, Stock, position_cmp as place_cmp, non_zero, nothing, units_at}
use Rattle.lot_inv.specs.Zeros.{HasNoZeros}
use Rattle.lot_cost.proofs.OrderLemmas.{eq_then, is_equal}
use Rattle.lot_book.specs.declared.holding.Holding.{Holding}
use Rattle.lot_book.specs.declared.leg.Position.{Position}
use Rattle.lot_book.specs.Facts.{Facts}
use Rattle.lot_book.specs.Holding.{ListsHoldings, entry_of, position_of}
use Rattle.lot_book.specs.Leg.{position_cmp, same_position}
use Rattle.lot_view.specs.Holdings.{entries_in, entries_of}
use Rattle.lot_book.proofs.HeldLemmas.{at, no_zeros-empty}

-- an account whose inventory holds no zero units
abbrev pub KeepsNoZeros : List ℕ × Stock → Type 0
KeepsNoZeros kept = HasNoZeros kept.1.held

-- ---- the order of the rows

abbrev IsBelow : Position → List (Position × ℤ) → Type 0
IsBelow position rest = AllByRecursion (λ (other : Position). position_cmp position other ≡ Less) (keys_of rest)

same_account : (account : List ℕ) (o : Ordering) → ordering_then (text_cmp account account) o ≡ o
same_account account o = ap (λ r. ordering_then r o) (tied_itself nat_list_cmp_total account)

below_own : (account : List ℕ) (place : Place) (held : List (Place × ℤ)) (rest : List (Position × ℤ))
    → AllByRecursion (λ (other : Place). place_cmp place other ≡ Less) (keys_of held) → IsBelow (at account place) rest
    → IsBelow (at account place) (entries_in account held ++ rest)
below_own account place [] rest h k = k
below_own account place (entry ∷ held) rest h k =
    (same_account account (place_cmp place entry.0) ∙ h.0, below_own account place held rest h.1 k)

below_other : (position : Position) (account : List ℕ) (held : List (Place × ℤ)) (rest : List (Position × ℤ))
    → text_cmp position.account account ≡ Less → IsBelow position rest → IsBelow position (entries_in account held ++ rest)
below_other position account [] rest e k = k
below_other position account (entry ∷ held) rest e k =
    (ap (λ r. ordering_then r (place_cmp (position.commodity, position.lot) entry.0)) e, below_other position account held rest e k)

below_accounts : (position : Position) (kept : List (List ℕ × Stock))
    → AllByRecursion (λ (other : List ℕ). text_cmp position.account other ≡ Less) (keys_of kept)
    → IsBelow position (entries_of kept)
below_accounts position [] h = tt
below_accounts position (first ∷ kept) h =
    below_other position first.0 (entries first.1.held) (entries_of kept) h.0 (below_accounts position kept h.1)

sorted_account : (account : List ℕ) (held : List (Place × ℤ)) (rest : List (Position × ℤ))
    → IsStrictlySortedBy place_cmp (keys_of held) → IsStrictlySortedBy position_cmp (keys_of rest)
    → ((place : Place) → IsBelow (at account place) rest)
    → IsStrictlySortedBy position_cmp (keys_of (entries_in account held ++ rest))
unfolding IsStrictlySortedBy
sorted_account account [] rest h k above = k
sorted_account account (entry ∷ held) rest h k above =
    (below_own account entry.0 held rest h.0 (above entry.0), sorted_account account held rest h.1 k above)

sorted_accounts : (kept : List (List ℕ × Stock)) → IsStrictlySortedBy text_cmp (keys_of kept)
    → IsStrictlySortedBy position_cmp (keys_of (entries_of kept))
unfolding IsStrictlySortedBy
sorted_accounts [] h = tt
sorted_accounts (first ∷ kept) h =
    sorted_account first.0 (entries first.1.held) (entries_of kept)
    (keys_sorted place_cmp (entries first.1.held) (entries_sorted first.1.held)) (sorted_accounts kept h.1)
    (λ place. below_accounts (at first.0 place) kept h.0)

-- ---- what is found in the rows

cond_same : {X : Type 0} (b : Bool) (x : X) → x ≡ cond b x x
cond_same true x = refl
cond_same false x = refl

cond_both : {X : Type 0} (a b : Bool) (x : X) (found left : Option X)
    → cond (a && b) (Some x) (cond a (option_or found left) left) ≡ cond a (option_or (cond b (Some x) found) left) left
cond_both true true x found left = refl
cond_both true false x found left = refl
cond_both false b x found left = refl

found_in-account : (account other : List ℕ) (place : Place) (held : List (Place × ℤ)) (rest : List (Position × ℤ))
    → lookup (same_position (at account place)) (entries_in other held ++ rest)
    ≡ cond (is_eq (text_cmp account other))
    (option_or (lookup (is_at (place_cmp place)) held) (lookup (same_position (at account place)) rest))
    (lookup (same_position (at account place)) rest)
found_in-account account other place [] rest =
    cond_same (is_eq (text_cmp account other)) (lookup (same_position (at account place)) rest)
found_in-account account other place (entry ∷ held) rest =
    let o = text_cmp account other in
    let r = place_cmp place entry.0 in
    let left = lookup (same_position (at account place)) rest in
    ap (λ b. cond b (Some entry.1) (lookup (same_position (at account place)) (entries_in other held ++ rest))) (eq_then o r)
    ∙ ap (cond (is_eq o && is_eq r) (Some entry.1)) (found_in-account account other place held rest)
    ∙ cond_both (is_eq o) (is_eq r) entry.1 (lookup (is_at (place_cmp place)) held) left

-- what the inventory of an account has at a place, where there is one
abbrev found_at : Place → Option Stock → Option ℤ
found_at place stock = option_and_then (λ (s : Stock). get s.held place) stock

found_in-accounts : (kept : List (List ℕ × Stock)) (account : List ℕ) (place : Place) → IsStrictlySortedBy text_cmp (keys_of kept)
    → lookup (same_position (at account place)) (entries_of kept) ≡ found_at place (lookup (is_at (text_cmp account)) kept)
unfolding IsStrictlySortedBy
found_in-accounts [] account place h = refl
found_in-accounts (first ∷ kept) account place h =
    found_in-account account first.0 place (entries first.1.held) (entries_of kept)
    ∙ by (is_eq (text_cmp account first.0)) refl (found_in-accounts kept account place h.1)
  where
    by : (b : Bool) → is_eq (text_cmp account first.0) ≡ b
        → lookup (same_position (at account place)) (entries_of kept) ≡ found_at place (lookup (is_at (text_cmp account)) kept)
        → cond b (option_or (lookup (is_at (place_cmp place)) (entries first.1.held))
        (lookup (same_position (at account place)) (entries_of kept)))
        (lookup (same_position (at account place)) (entries_of kept))
        ≡ found_at place (cond b (Some first.1) (lookup (is_at (text_cmp account)) kept))
    by true e rest =
        let same : account ≡ first.0 = exact_bytes account first.0 (is_equal (text_cmp account first.0) e) in
        let none : lookup (same_position (at account place)) (entries_of kept) ≡ None =
        none_below position_cmp (at account place) (entries_of kept) (below_accounts (at account place) kept
        (subst (λ a. AllByRecursion (λ (other : List ℕ). text_cmp a other ≡ Less) (keys_of kept)) (sym same) h.0)) in
        ap (option_or (lookup (is_at (place_cmp place)) (entries first.1.held))) none
        ∙ or_none (lookup (is_at (place_cmp place)) (entries first.1.held))
        ∙ sym (found_by_order place_cmp place (entries first.1.held))
        ∙ sym (get-entries first.1.held place)
    by false e rest = rest

-- ---- what a view holds

-- no inventory that is found holds a zero
no_zeros-found : (kept : List (List ℕ × Stock)) (account : List ℕ) (place : Place) → AllByRecursion KeepsNoZeros kept
    → found_at place (lookup (is_at (text_cmp account)) kept)
    ≡ non_zero (units_at (unwrap_or (lookup (is_at (text_cmp account)) kept) nothing).held place)
no_zeros-found [] account place h = sym (get-empty place_cmp place) ∙ no_zeros-empty place
no_zeros-found (first ∷ kept) account place h = by (is_eq (text_cmp account first.0)) (no_zeros-found kept account place h.1)
  where
    by : (b : Bool)
        → found_at place (lookup (is_at (text_cmp account)) kept)
        ≡ non_zero (units_at (unwrap_or (lookup (is_at (text_cmp account)) kept) nothing).held place)
        → found_at place (cond b (Some first.1) (lookup (is_at (text_cmp account)) kept))
        ≡ non_zero (units_at (unwrap_or (cond b (Some first.1) (lookup (is_at (text_cmp account)) kept)) nothing).held place)
    by true rest = h.0 place
    by false rest = rest

positions_seen : (rows : List Holding) → keys_of (map entry_of rows) ≡ map position_of rows
positions_seen [] = refl
positions_seen (row ∷ rows) = ap (λ ps. position_of row ∷ ps) (positions_seen rows)

-- the rows of all accounts list what is held
pub lists : (facts : Facts) (kept : List (List ℕ × Stock)) (rows : List Holding)
    → ((account : List ℕ) → facts.held account ≡ (unwrap_or (lookup (is_at (text_cmp account)) kept) nothing).held)
    → IsStrictlySortedBy text_cmp (keys_of kept) → AllByRecursion KeepsNoZeros kept → map entry_of rows ≡ entries_of kept
    → ListsHoldings facts rows
lists facts kept rows known sorted no_zeros all = record {
  in_order = subst (IsStrictlySortedBy position_cmp) (ap keys_of (sym all) ∙ positions_seen rows) (sorted_accounts kept sorted);
  each = λ position.
      let place : Place = (position.commodity, position.lot) in
      ap (lookup (same_position position)) all
      ∙ found_in-accounts kept position.account place sorted
      ∙ no_zeros-found kept position.account place no_zeros
      ∙ ap (λ held. non_zero (units_at held place)) (sym (known position.account));
}

-- The lots that an inventory lists, once they are sorted, are all that are held, in the order in which they were opened.
use Rattle.std.proofs.Common.{◌≡◌, ◌∙◌, ℕ, ◌+◌, true, false, List, [], ◌∷◌, get_or, ℤ, refl, sym, ap, ap₂, subst, subst₂, arith}
use Rattle.std.specs.Prelude.{filter, map, Bool}
use Rattle.std.specs.declared.cmp.Ordering.{Ordering}
use Rattle.std.specs.declared.cmp.Ordering.TheVariants.{Less, Equal, Greater}
use Rattle.std.specs.FinMap.{empty}
use Rattle.std.specs.Cmp.{IsStrictWeakOrder, IsTotalOrder}
use Rattle.std.specs.List.{AllByRecursion, IsDistinct}
use Rattle.std.specs.List.Sorted.{IsPermutation, IsSorted, IsStrictlySortedBy}
use Rattle.std.specs.Map.{keys_of}
use Rattle.std.specs.Ordering.{eq_by_cmp, is_eq, is_lt, nat_cmp, ordering_reverse, ordering_then}
use Rattle.std.proofs.lemmas.Cmp.{eq_by_cmp_equiv, nat_cmp_total, on_equiv, on_total, tied_back, then_total}
use Rattle.std.proofs.lemmas.List.MinMax.{ranks_by}
use Rattle.std.proofs.lemmas.List.Sorted.{IsPermutation-map, IsPermutation-refl}
use Rattle.std.proofs.lemmas.Map.Keys.{IsDistinct-IsPermutation, IsDistinct-from_sorted, apart_from_distinct, sorted_from_all_adjacent}
use Rattle.lot_cost.specs.declared.lot_key.LotKey.{LotKey}
use Rattle.lot_cost.specs.CostSpec.{fits}
use Rattle.lot_cost.specs.LotKey.{lot_cmp}
use Rattle.lot_cost.proofs.OrderLemmas.{lots_total}
use Rattle.lot_inv.specs.declared.lot.Lot.{Lot}
use Rattle.lot_inv.specs.Inventory.{Held, lots_of, matching}
use Rattle.lot_inv.specs.Lot.{AreNumberedBy, key_and_units as listed}
use Rattle.lot_inv.proofs.LotLemmas.{lots_of-empty}
use Rattle.lot_booking.proofs.ListLemmas.{all_permuted}
use Rattle.lot_booking.specs.Method.{Ties, ByOpening}
use Rattle.lot_booking.specs.OpeningOrder.{opened_cmp as opened_before}
use Rattle.lot_split.specs.Held.{AreHeld, key_and_units, key_of, opened_cmp}
use Rattle.lot_split.specs.Split.{each_lot}
use Rattle.lot_split.specs.declared.lot.HeldLot.{HeldLot}

-- ---- the order of lots

abbrev pub lot_order : Lot → Lot → Ordering
lot_order a b = opened_before (a.key, a.opening) (b.key, b.opening)

order_total : IsTotalOrder lot_order
order_total = then_total (on_total (λ (l : Lot). l.opening) nat_cmp_total) (on_total (λ (l : Lot). l.key) lots_total)

pub lots_rank : IsStrictWeakOrder (λ a b. is_lt (lot_order a b))
lots_rank = ranks_by order_total (λ lot. lot)

abbrev same_key : Lot → Lot → Bool
same_key a b = eq_by_cmp lot_cmp a.key b.key

second_tied : (r s : Ordering) → ordering_then r s ≡ Equal → s ≡ Equal
second_tied Less s h = cc
second_tied Equal s h = h
second_tied Greater s h = cc

less_by : (o : Ordering) → is_lt o ≡ false → (o ≡ Equal → ⊥) → ordering_reverse o ≡ Less
less_by Less not_less untied = cc
less_by Equal not_less untied = absurd (untied refl)
less_by Greater not_less untied = refl

rises : (a b : Lot) → is_lt (lot_order b a) ≡ false → same_key a b ≡ false → lot_order a b ≡ Less
rises a b not_less apart =
    order_total.antisymm a b
    ∙ less_by (lot_order b a) not_less (λ tied.
    let back = second_tied (nat_cmp b.opening a.opening) (lot_cmp b.key a.key) tied in
    let same : same_key a b ≡ true = ap is_eq (tied_back lots_total b.key a.key back) in
    cc)

-- lots with distinct keys that are sorted stand strictly in the order
strictly : (lots : List Lot) → IsSorted lot_order lots → IsDistinct same_key lots → IsStrictlySortedBy lot_order lots
unfolding IsStrictlySortedBy
strictly [] sorted distinct = tt
strictly (lot ∷ lots) sorted distinct =
    sorted_from_all_adjacent order_total (lot ∷ lots) lot (λ k within.
    rises (get_or (lot ∷ lots) k lot) (get_or (lot ∷ lots) (k + 1) lot) (sorted k lot (omega arith) within)
    (apart_from_distinct same_key (lot ∷ lots) k (k + 1) lot distinct (omega arith) within))

-- ---- keys

all_keys : (P : LotKey → Type 0) (lots : List Lot) → AllByRecursion P (keys_of (map listed lots)) → AllByRecursion (λ (l : Lot). P l.key) lots
all_keys P [] all = tt
all_keys P (l ∷ ls) all = (all.0, all_keys P ls all.1)

distinct_lots : (lots : List Lot) → IsDistinct (eq_by_cmp lot_cmp) (keys_of (map listed lots)) → IsDistinct same_key lots
unfolding IsDistinct
distinct_lots [] distinct = tt
distinct_lots (l ∷ ls) distinct = (all_keys (λ k. eq_by_cmp lot_cmp l.key k ≡ false) ls distinct.0, distinct_lots ls distinct.1)

module _ (opening : LotKey → ℕ) where
  key_below : (lot : Lot) (lots : List Lot) → lot.opening ≡ opening lot.key → AreNumberedBy opening lots
      → AllByRecursion (λ (l : Lot). lot_order lot l ≡ Less) lots
      → AllByRecursion (λ (k : LotKey). opened_cmp (ByOpening opening) lot.key k ≡ Less) (keys_of (map listed lots))
  key_below lot [] is numbered below = tt
  key_below lot (l ∷ ls) is numbered below = (
    ap₂ (λ m n. ordering_then (nat_cmp m n) (lot_cmp lot.key l.key)) (sym is) (sym numbered.0) ∙ below.0,
    key_below lot ls is numbered.1 below.1,
  )

  keys_rise : (lots : List Lot) → AreNumberedBy opening lots → IsStrictlySortedBy lot_order lots
      → IsStrictlySortedBy (opened_cmp (ByOpening opening)) (keys_of (map listed lots))
  unfolding IsStrictlySortedBy
  keys_rise [] numbered sorted = tt
  keys_rise (l ∷ ls) numbered sorted = (key_below l ls numbered.0 numbered.1 sorted.0, keys_rise ls numbered.1 sorted.1)

keys_held : (lots : List HeldLot) → keys_of (map key_and_units lots) ≡ map key_of lots
keys_held [] = refl
keys_held (l ∷ ls) = ap (λ ks. l.key ∷ ks) (keys_held ls)

-- ---- all lots

fits_all : (lots : List (LotKey × ℤ)) → filter (λ (lot : LotKey × ℤ). fits each_lot lot.0) lots ≡ lots
fits_all [] = refl
fits_all (l ∷ ls) = ap (λ xs. l ∷ xs) (fits_all ls)

pub are_held : (held : Held) (commodity : List ℕ) (opening : LotKey → ℕ) (found sorted : List Lot) (lots : List HeldLot)
    → map listed found ≡ matching held commodity each_lot → AreNumberedBy opening found
    → IsStrictlySortedBy lot_cmp (keys_of (map listed found)) → IsPermutation found sorted → IsSorted lot_order sorted
    → map key_and_units lots ≡ map listed sorted → AreHeld (ByOpening opening) held commodity lots
are_held held commodity opening found sorted lots are numbered rise moved up same =
    let distinct = distinct_lots found (IsDistinct-from_sorted lot_cmp (keys_of (map listed found)) rise) in
    let apart = IsDistinct-IsPermutation same_key (on_equiv (λ (l : Lot). l.key) (eq_by_cmp_equiv lots_total)).symm found sorted moved distinct in
    let by_keys = keys_rise opening sorted (all_permuted (λ (lot : Lot). lot.opening ≡ opening lot.key) found sorted moved numbered)
    (strictly sorted up apart) in
    record {
      all = subst (λ xs. IsPermutation xs (map key_and_units lots)) (are ∙ fits_all (lots_of held commodity))
          (subst (IsPermutation (map listed found)) (sym same) (IsPermutation-map listed found sorted moved));
      in_order = subst (IsStrictlySortedBy (opened_cmp (ByOpening opening))) (sym (ap keys_of same) ∙ keys_held lots) by_keys;
    }

-- ---- no lots

nothing_rises : {K : Type 0} (compare : K → K → Ordering) → IsStrictlySortedBy compare []
unfolding IsStrictlySortedBy
nothing_rises compare = tt

pub nothing_held : (ties : Ties) (held : Held) (commodity : List ℕ) (lots : List HeldLot) → held ≡ empty → lots ≡ [] → AreHeld ties held commodity lots
nothing_held ties held commodity lots is none = record {
  all = subst₂ (λ (all : List (LotKey × ℤ)) (ls : List HeldLot). IsPermutation all (map key_and_units ls))
      (sym (ap (λ h. lots_of h commodity) is ∙ lots_of-empty commodity)) (sym none) (IsPermutation-refl []);
  in_order = subst (λ (ls : List HeldLot). IsStrictlySortedBy (opened_cmp ties) (map key_of ls)) (sym none) (nothing_rises (opened_cmp ties));
}

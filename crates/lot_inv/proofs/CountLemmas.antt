-- How many lots are below zero, as lots come, change and go.
use Rattle.std.specs.Prelude.{◌≡◌, ℕ, suc, ◌+◌, ◌≤◌, Bool, true, false, cond, ◌||◌, List, [], ◌∷◌, length, Option, None, Some, ℤ, pos, int_lt}
use Rattle.std.specs.declared.cmp.Ordering.TheVariants.{Less, Equal, Greater}
use Rattle.std.specs.BTreeMap.{insert_entry, is_at}
use Rattle.std.specs.List.{list_any}
use Rattle.std.specs.Map.{lookup, remove_entry, set_value, values_of}
use Rattle.std.specs.Ordering.{int_eq, is_eq, match_ordering}
use Rattle.std.proofs.Common.{inl, inr, refl, sym, ap, ◌∙◌, arith}
use Rattle.std.proofs.Math.Dec.{ltb}
use Rattle.std.proofs.lemmas.Bool.{cases_lt, le-ltb, lt-ltb}
use Rattle.std.proofs.lemmas.Int.{ints}
use Rattle.lot_cost.specs.declared.lot_key.LotKey.{LotKey}
use Rattle.lot_cost.specs.LotKey.{lot_cmp}
use Rattle.lot_inv.specs.declared.lots.OpenLot.{OpenLot}
use Rattle.lot_inv.specs.Holding.{kept, units_in}
use Rattle.lot_inv.specs.Inventory.{other_sign}
use Rattle.lot_inv.specs.Lots.{AreCounted, count_of, counted_in, is_below, is_zero, lot_at}

abbrev Entry : Type 0
Entry = LotKey × OpenLot

-- ---- lots that go, change and come

none_more : (n : ℕ) → 0 + n ≡ n
none_more n = omega arith

behind_one : (x a b c : ℕ) → a + b ≡ c → (x + a) + b ≡ x + c
behind_one x a b c e = omega (arith, e)

both_behind : (x a b c d : ℕ) → a + b ≡ c + d → (x + a) + b ≡ (x + c) + d
both_behind x a b c d e = omega (arith, e)

swapped : (a b : ℕ) → a + b ≡ b + a
swapped a b = omega arith

module _ (test : ℤ → Bool) where
  pub count-removed : (at : LotKey → Bool) (lots : List Entry)
      → count_of test (remove_entry at lots) + counted_in test (lookup at lots) ≡ count_of test lots
  count-removed at [] = refl
  count-removed at (lot ∷ lots) =
      let one = counted_in test (Some lot.1) in
      elim (at lot.0) as (λ b. count_of test (cond b lots (lot ∷ remove_entry at lots)) + counted_in test (cond b (Some lot.1) (lookup at lots))
      ≡ one + count_of test lots) [
        | true ↦ swapped (count_of test lots) one
        | false ↦ behind_one one (count_of test (remove_entry at lots)) (counted_in test (lookup at lots)) (count_of test lots) (count-removed at lots)
      ]

  pub count-changed : (at : LotKey → Bool) (lots : List Entry) (old new : OpenLot) → lookup at lots ≡ Some old
      → count_of test (set_value at lots new) + counted_in test (Some old) ≡ count_of test lots + counted_in test (Some new)
  count-changed at [] old new is = cc
  count-changed at (lot ∷ lots) old new is =
      let one = counted_in test (Some lot.1) in
      elim (at lot.0) as (λ b. cond b (Some lot.1) (lookup at lots) ≡ Some old
      → count_of test (cond b ((lot.0, new) ∷ lots) (lot ∷ set_value at lots new)) + counted_in test (Some old) ≡ (one + count_of test lots) + counted_in test (Some new)) [
        | true ↦ λ e. ap (λ found. (counted_in test (Some new) + count_of test lots) + counted_in test found) (sym e)
            ∙ turned (counted_in test (Some new)) (count_of test lots) one
        | false ↦ λ e. both_behind one (count_of test (set_value at lots new)) (counted_in test (Some old)) (count_of test lots) (counted_in test (Some new))
            (count-changed at lots old new e)
      ] is
    where
      turned : (a b c : ℕ) → (a + b) + c ≡ (c + b) + a
      turned a b c = omega arith

  pub count-inserted : (key : LotKey) (lots : List Entry) (new : OpenLot) → lot_at lots key ≡ None
      → count_of test (insert_entry lot_cmp lots key new) ≡ count_of test lots + counted_in test (Some new)
  count-inserted key [] new absent = swapped (counted_in test (Some new)) 0
  count-inserted key (lot ∷ lots) new absent =
      let one = counted_in test (Some lot.1) in
      let behind = insert_entry lot_cmp lots key new in
      elim (lot_cmp key lot.0) as (λ o. cond (is_eq o) (Some lot.1) (lot_at lots key) ≡ None
      → count_of test (match_ordering o ((key, new) ∷ lot ∷ lots) ((lot.0, new) ∷ lots) (lot ∷ behind)) ≡ (one + count_of test lots) + counted_in test (Some new)) [
        | Less ↦ λ e. swapped (counted_in test (Some new)) (one + count_of test lots)
        | Equal ↦ λ e. cc e
        | Greater ↦ λ e. further one (count_of test behind) (count_of test lots) (counted_in test (Some new)) (count-inserted key lots new e)
      ] absent
    where
      further : (x a b c : ℕ) → a ≡ b + c → x + a ≡ (x + b) + c
      further x a b c e = omega (arith, e)

  -- no more are counted than there are
  pub count-few : (lots : List Entry) → count_of test lots ≤ length lots
  count-few [] = omega arith
  count-few (lot ∷ lots) =
      let rest = count-few lots in
      elim (test lot.1.units) as (λ b. cond b 1 0 + count_of test lots ≤ length (lot ∷ lots)) [
        | true ↦ omega (arith, rest)
        | false ↦ omega (arith, rest)
      ]

-- ---- a lot that is set

module _ (key : LotKey) (units : ℤ) (opening : ℕ) (old : List Entry) where
  -- each count that there is goes with the lot
  abbrev pub Counts_go : List Entry → Option OpenLot → Type 0
  Counts_go new before = (test : ℤ → Bool) → count_of test new + counted_in test before ≡ count_of test old + counted_in test (kept units opening)

  abbrev as_set : OpenLot
  as_set = record { units = units; opening = opening }

  pub counts_removed : (new : List Entry) (before : Option OpenLot) → new ≡ remove_entry (is_at (lot_cmp key)) old → before ≡ lot_at old key
      → int_eq units (pos 0) ≡ true → Counts_go new before
  counts_removed new before removed was zero test =
      (λ i. count_of test (removed i) + counted_in test (was i)) ∙ count-removed test (is_at (lot_cmp key)) old
      ∙ sym (swapped (count_of test old) 0 ∙ none_more (count_of test old))
      ∙ ap (λ b. count_of test old + counted_in test (cond b None (Some as_set))) (sym zero)

  pub counts_changed : (new : List Entry) (before : OpenLot) → new ≡ set_value (is_at (lot_cmp key)) old as_set → lot_at old key ≡ Some before
      → int_eq units (pos 0) ≡ false → Counts_go new (Some before)
  counts_changed new before changed was some test =
      ap (λ es. count_of test es + counted_in test (Some before)) changed ∙ count-changed test (is_at (lot_cmp key)) old before as_set was
      ∙ ap (λ b. count_of test old + counted_in test (cond b None (Some as_set))) (sym some)

  pub counts_inserted : (mid new : List Entry) (copied : LotKey) → mid ≡ old → copied ≡ key → new ≡ insert_entry lot_cmp mid copied as_set
      → lot_at old key ≡ None → int_eq units (pos 0) ≡ false → Counts_go new None
  counts_inserted mid new copied same copy inserted absent some test =
      swapped (count_of test new) 0 ∙ none_more (count_of test new)
      ∙ ap (count_of test) (inserted ∙ (λ i. insert_entry lot_cmp (same i) (copy i) as_set)) ∙ count-inserted test key old as_set absent
      ∙ ap (λ b. count_of test old + counted_in test (cond b None (Some as_set))) (sym some)

-- ---- the sign of units

-- with units below zero, a lot has the other sign where it isn't below zero itself
below_same : (held units : ℤ) → int_lt units (pos 0) ≡ true → int_lt held (pos 0) ≡ true → other_sign held units ≡ false
below_same held units sold below = grind (arith, ints)

below_other : (held units : ℤ) → int_lt units (pos 0) ≡ true → int_lt held (pos 0) ≡ false → int_eq held (pos 0) ≡ false → other_sign held units ≡ true
below_other held units sold above some = grind (arith, ints)

above_other : (held units : ℤ) → int_lt (pos 0) units ≡ true → other_sign held units ≡ int_lt held (pos 0)
above_other held units bought = grind (arith, ints)

no_sign : (held units : ℤ) → int_lt (pos 0) units ≡ false → int_lt units (pos 0) ≡ false → other_sign held units ≡ false
no_sign held units up down = grind (arith, ints)

abbrev pub reduces_some : ℤ → List Entry → Bool
reduces_some units lots = list_any (λ held. other_sign held units) (values_of (units_in lots))

one_more : (n m : ℕ) → ltb n m ≡ ltb (1 + n) (suc m)
one_more n m = elim (cases_lt n m) [
  | inl less ↦ lt-ltb n m less ∙ sym (lt-ltb (1 + n) (suc m) (omega (arith, less)))
  | inr more ↦ le-ltb n m more ∙ sym (le-ltb (1 + n) (suc m) (omega (arith, more)))
]

pub none_reduced : (units : ℤ) (lots : List Entry) → int_lt (pos 0) units ≡ false → int_lt units (pos 0) ≡ false → reduces_some units lots ≡ false
none_reduced units [] up down = refl
none_reduced units (lot ∷ lots) up down = ap (λ b. b || reduces_some units lots) (no_sign lot.1.units units up down) ∙ none_reduced units lots up down

pub bought_back : (units : ℤ) (lots : List Entry) → int_lt (pos 0) units ≡ true → reduces_some units lots ≡ ltb 0 (count_of is_below lots)
bought_back units [] bought = refl
bought_back units (lot ∷ lots) bought =
    ap (λ b. b || reduces_some units lots) (above_other lot.1.units units bought)
    ∙ elim (int_lt lot.1.units (pos 0)) as (λ b. (b || reduces_some units lots) ≡ ltb 0 (cond b 1 0 + count_of is_below lots)) [
      | true ↦ sym (lt-ltb 0 (1 + count_of is_below lots) (omega arith))
      | false ↦ bought_back units lots bought ∙ ap (ltb 0) (sym (none_more (count_of is_below lots)))
    ]

pub sold_off : (units : ℤ) (lots : List Entry) → int_lt units (pos 0) ≡ true → count_of is_zero lots ≡ 0
    → reduces_some units lots ≡ ltb (count_of is_below lots) (length lots)
sold_off units [] sold none = refl
sold_off units (lot ∷ lots) sold none =
    let held = lot.1.units in
    let few = count-few is_below lots in
    elim (int_eq held (pos 0)) as (λ z. int_eq held (pos 0) ≡ z → cond z 1 0 + count_of is_zero lots ≡ 0 → reduces_some units (lot ∷ lots) ≡ ltb (count_of is_below (lot ∷ lots)) (length (lot ∷ lots))) [
      | true ↦ λ zero n. absurd (omega (arith, n))
      | false ↦ λ some n. elim (int_lt held (pos 0)) as (λ b. int_lt held (pos 0) ≡ b → (other_sign held units || reduces_some units lots) ≡ ltb (cond b 1 0 + count_of is_below lots) (length (lot ∷ lots))) [
        | true ↦ λ below. ap (λ b. b || reduces_some units lots) (below_same held units sold below) ∙ sold_off units lots sold (sym (none_more (count_of is_zero lots)) ∙ n) ∙ one_more (count_of is_below lots) (length lots)
        | false ↦ λ above. ap (λ b. b || reduces_some units lots) (below_other held units sold above some) ∙ sym (lt-ltb (0 + count_of is_below lots) (length (lot ∷ lots)) (omega (arith, few)))
      ] refl
    ] refl none

-- ---- the count of a lot that is set

below_kept : (units : ℤ) (opening : ℕ) → counted_in is_below (kept units opening) ≡ cond (is_below units) 1 0
below_kept units opening =
    elim (int_eq units (pos 0)) as (λ b. int_eq units (pos 0) ≡ b → counted_in is_below (cond b None (Some (record { units = units; opening = opening }))) ≡ cond (is_below units) 1 0) [
      | true ↦ λ zero. ap (λ b. cond b 1 0) (sym (not_below zero))
      | false ↦ λ some. refl
    ] refl
  where
    not_below : int_eq units (pos 0) ≡ true → is_below units ≡ false
    not_below zero = grind (arith, ints)

zero_kept : (units : ℤ) (opening : ℕ) → counted_in is_zero (kept units opening) ≡ 0
zero_kept units opening =
    elim (int_eq units (pos 0)) as (λ b. int_eq units (pos 0) ≡ b → counted_in is_zero (cond b None (Some (record { units = units; opening = opening }))) ≡ 0) [
      | true ↦ λ zero. refl
      | false ↦ λ some. ap (λ b. cond b 1 0) some
    ] refl

module _ (key : LotKey) (units : ℤ) (opening : ℕ) (old new : List Entry) (before : Option OpenLot) (below : ℕ)
    (counted : AreCounted below old) (go : Counts_go key units opening old new before) where
  -- the count with the lot as it is now, still with the lot as it was
  count-with : below + cond (is_below units) 1 0 ≡ count_of is_below new + counted_in is_below before
  count-with = (λ i. counted.counted i + sym (below_kept units opening) i) ∙ sym (go is_below)

  pub count-in_range : below + cond (is_below units) 1 0 ≤ length new + 1
  count-in_range =
      let same = count-with in
      let few = count-few is_below new in
      let one = one_at_most before in
      omega (arith, same, few, one)
    where
      one_at_most : (lot : Option OpenLot) → counted_in is_below lot ≤ 1
      one_at_most None = omega arith
      one_at_most (Some lot) = elim (is_below lot.units) as (λ b. cond b 1 0 ≤ 1) [ true ↦ omega arith | false ↦ omega arith ]

  pub counted_still : (n : ℕ) → n + counted_in is_below before ≡ below + cond (is_below units) 1 0 → AreCounted n new
  counted_still n is =
      let same = count-with in
      let zeros = go is_zero in
      let were = counted.none_zero in
      let now = zero_kept units opening in
      record {
        counted = omega (arith, is, same);
        none_zero = omega (arith, zeros, were, now);
      }

  pub count-at_least : counted_in is_below before ≤ below + cond (is_below units) 1 0
  count-at_least = let same = count-with in omega (arith, same)

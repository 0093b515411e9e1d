-- The rows of a key, once a row is put in or taken out.
use Rattle.std.specs.Prelude.{◌≡◌, ℕ, zero, suc, ◌≤◌, Bool, true, false, not, cond, List, [], ◌∷◌, ◌++◌, filter, slice_get, Option, Some, None}
use Rattle.std.specs.Cmp.{IsTotalOrder}
use Rattle.std.specs.List.{AllByRecursion}
use Rattle.std.specs.Ordering.{is_eq, is_gt, ordering_reverse, ordering_then}
use Rattle.std.specs.declared.cmp.Ordering.{Ordering}
use Rattle.std.specs.declared.cmp.Ordering.TheVariants.{Less, Equal, Greater}
use Rattle.std.proofs.Common.{refl, sym, ap, ◌∙◌, arith, inl, inr}
use Rattle.std.proofs.lemmas.Bool.{cases_Bool, true≢false}
use Rattle.std.proofs.lemmas.Cmp.{alike_right, tied_back, tied_itself}
use Rattle.sqlite.specs.Order.{Row}
use Rattle.sqlite.specs.Tree.{IsAscending}
use Rattle.sqlite_keyed.specs.Lists.{insert_sorted}
use Rattle.sqlite_keyed.proofs.ListLemmas.{all_weaker, filter_all, filter_none}
use Rattle.sqlite_rules.specs.Lists.{Has}
use Rattle.sqlite_rules.proofs.ListLemmas.{all_from, all_has, has_filtered, has_got}
use Rattle.sqlite_sql.specs.Query.{key_cmp}
use Rattle.sqlite_value.specs.Keys.{rising}
use Rattle.lot_cost.proofs.OrderLemmas.{is_equal}
use Rattle.lot_table.specs.Rows.{has_key, key_order, put_in, with_key, without_key}
use Rattle.lot_stored.proofs.OrderLemmas.{IsRising, inserted-last, key_order-total, rises-without_key, row_order, row_order-total, without_key-none}

-- ---- keys

then_tied : (o p : Ordering) → ordering_then o p ≡ Equal → (o ≡ Equal) × (p ≡ Equal)
then_tied Less p e = absurd (true≢false (sym (ap is_eq e)))
then_tied Equal p e = (refl, e)
then_tied Greater p e = absurd (true≢false (sym (ap is_eq e)))

-- rows of one key have one shorter key too
prefix_tied : (at shorter width : ℕ) (a b : Row) → shorter ≤ width → key_cmp at (rising width []) a b ≡ Equal
    → key_cmp at (rising shorter []) a b ≡ Equal
prefix_tied at zero width a b within e = refl
prefix_tied at (suc shorter) zero a b within e = absurd (omega arith)
prefix_tied at (suc shorter) (suc width) a b within e =
    let parts = then_tied _ _ e in
    ap (λ o. ordering_then o (key_cmp (suc at) (rising shorter []) a b)) parts.0
    ∙ prefix_tied (suc at) shorter width a b (omega arith) parts.1

-- a row that ties with another has the keys that it has
has_key-tied : (shorter width : ℕ) (key a b : Row) → shorter ≤ width → has_key width b a ≡ true
    → has_key shorter key a ≡ has_key shorter key b
has_key-tied shorter width key a b within same =
    ap is_eq ((key_order-total shorter).congr a b key (prefix_tied 0 shorter width a b within (is_equal (key_order width a b) same)))

-- a row has its own key
pub has_own_key : (width : ℕ) (row : Row) → has_key width row row ≡ true
has_own_key width row = ap is_eq (tied_itself (key_order-total width) row)

-- ---- filters and sorted lists

module _ {X : Type 0} (cmp : X → X → Ordering) (total : IsTotalOrder cmp) (p : X → Bool) where
  abbrev IsUp : List X → Type 0
  IsUp = IsAscending (λ a b. cmp a b ≡ Less)

  filter-inserted_out : (new : X) (xs : List X) → p new ≡ false → filter p (insert_sorted cmp new xs) ≡ filter p xs
  filter-inserted_out new [] fails = ap (λ b. cond b (new ∷ []) []) fails
  filter-inserted_out new (x ∷ xs) fails =
      elim (is_gt (cmp new x)) as (λ b. filter p (cond b (x ∷ insert_sorted cmp new xs) (new ∷ x ∷ xs)) ≡ filter p (x ∷ xs)) [
        | true ↦ ap (λ more. cond (p x) (x ∷ more) more) (filter-inserted_out new xs fails)
        | false ↦ ap (λ b. cond b (new ∷ filter p (x ∷ xs)) (filter p (x ∷ xs))) fails
      ]

  -- below all of a list it is the first
  inserted-first : (new : X) (xs : List X) → AllByRecursion (λ x. is_gt (cmp new x) ≡ false) xs
      → insert_sorted cmp new xs ≡ new ∷ xs
  inserted-first new [] above = refl
  inserted-first new (x ∷ xs) above = ap (λ b. cond b (x ∷ insert_sorted cmp new xs) (new ∷ x ∷ xs)) above.0

  all_filtered : (P : X → Type 0) (xs : List X) → AllByRecursion P xs → AllByRecursion P (filter p xs)
  all_filtered P [] all = tt
  all_filtered P (x ∷ xs) all =
      elim (p x) as (λ b. AllByRecursion P (cond b (x ∷ filter p xs) (filter p xs))) [
        | true ↦ (all.0, all_filtered P xs all.1)
        | false ↦ all_filtered P xs all.1
      ]

  -- what passes is in its place among what passes
  filter-inserted_in : (new : X) (xs : List X) → p new ≡ true → IsUp xs
      → filter p (insert_sorted cmp new xs) ≡ insert_sorted cmp new (filter p xs)
  filter-inserted_in new [] passes up = ap (λ b. cond b (new ∷ []) []) passes
  filter-inserted_in new (x ∷ xs) passes up = by (is_gt (cmp new x)) refl (p x) refl (filter-inserted_in new xs passes up.1)
    where
      -- what is below a row is below those above it
      under : is_gt (cmp new x) ≡ false → AllByRecursion (λ y. is_gt (cmp new y) ≡ false) xs
      under low =
          all_weaker (λ y. cmp x y ≡ Less) (λ y. is_gt (cmp new y) ≡ false)
          (λ y less. goes (cmp new x) refl low y less) xs up.0
        where
          goes : (o : Ordering) → cmp new x ≡ o → is_gt o ≡ false → (y : X) → cmp x y ≡ Less → is_gt (cmp new y) ≡ false
          goes Less e low y less = ap is_gt (total.trans new x y e less)
          goes Equal e low y less = ap is_gt (total.congr new x y e ∙ less)
          goes Greater e low y less = absurd (true≢false low)

      by : (b : Bool) → is_gt (cmp new x) ≡ b → (c : Bool) → p x ≡ c
          → filter p (insert_sorted cmp new xs) ≡ insert_sorted cmp new (filter p xs)
          → filter p (cond b (x ∷ insert_sorted cmp new xs) (new ∷ x ∷ xs)) ≡ insert_sorted cmp new (cond c (x ∷ filter p xs) (filter p xs))
      by true high true here more =
          ap (λ c. cond c (x ∷ filter p (insert_sorted cmp new xs)) (filter p (insert_sorted cmp new xs))) here
          ∙ ap (λ rest. x ∷ rest) more
          ∙ sym (ap (λ b. cond b (x ∷ insert_sorted cmp new (filter p xs)) (new ∷ x ∷ filter p xs)) high)
      by true high false out more =
          ap (λ c. cond c (x ∷ filter p (insert_sorted cmp new xs)) (filter p (insert_sorted cmp new xs))) out
          ∙ more
      by false low true here more =
          ap (λ b. cond b (new ∷ filter p (x ∷ xs)) (filter p (x ∷ xs))) passes
          ∙ ap (λ c. new ∷ cond c (x ∷ filter p xs) (filter p xs)) here
          ∙ sym (ap (λ b. cond b (x ∷ insert_sorted cmp new (filter p xs)) (new ∷ x ∷ filter p xs)) low)
      by false low false out more =
          ap (λ b. cond b (new ∷ filter p (x ∷ xs)) (filter p (x ∷ xs))) passes
          ∙ ap (λ c. new ∷ cond c (x ∷ filter p xs) (filter p xs)) out
          ∙ sym (inserted-first new (filter p xs) (all_filtered _ xs (under low)))

filter_both : {X : Type 0} (p q : X → Bool) (xs : List X) → AllByRecursion (λ x. p x ≡ true → q x ≡ true) xs
    → filter p (filter q xs) ≡ filter p xs
filter_both p q [] all = refl
filter_both p q (x ∷ xs) all = by (q x) refl (filter_both p q xs all.1)
  where
    by : (b : Bool) → q x ≡ b → filter p (filter q xs) ≡ filter p xs
        → filter p (cond b (x ∷ filter q xs) (filter q xs)) ≡ filter p (x ∷ xs)
    by true here more = ap (λ rest. cond (p x) (x ∷ rest) rest) more
    by false out more =
        elim (cases_Bool (p x)) [
          | inl passes ↦ absurd (true≢false (sym (all.0 passes) ∙ out))
          | inr fails ↦ more ∙ sym (ap (λ c. cond c (x ∷ filter p xs) (filter p xs)) fails)
        ]

filters-turned : {X : Type 0} (p q : X → Bool) (xs : List X) → filter p (filter q xs) ≡ filter q (filter p xs)
filters-turned p q [] = refl
filters-turned p q (x ∷ xs) = by (p x) refl (q x) refl (filters-turned p q xs)
  where
    by : (b : Bool) → p x ≡ b → (c : Bool) → q x ≡ c → filter p (filter q xs) ≡ filter q (filter p xs)
        → filter p (cond c (x ∷ filter q xs) (filter q xs)) ≡ filter q (cond b (x ∷ filter p xs) (filter p xs))
    by true here true kept more =
        ap (λ b. cond b (x ∷ filter p (filter q xs)) (filter p (filter q xs))) here
        ∙ ap (λ rest. x ∷ rest) more
        ∙ sym (ap (λ c. cond c (x ∷ filter q (filter p xs)) (filter q (filter p xs))) kept)
    by true here false out more =
        more ∙ sym (ap (λ c. cond c (x ∷ filter q (filter p xs)) (filter q (filter p xs))) out)
    by false gone true kept more =
        ap (λ b. cond b (x ∷ filter p (filter q xs)) (filter p (filter q xs))) gone ∙ more
    by false gone false out more = more

-- ---- the rows of a key

module _ {X : Type 0} (encode : X → Row) where
  -- one key under two rows is the same key
  same_keys : (width : ℕ) (key other row : Row) → has_key width key other ≡ true → has_key width key row ≡ has_key width other row
  same_keys width key other row same =
      let total = key_order-total width in
      ap is_eq (alike_right total key other row (tied_back total other key (is_equal (key_order width other key) same)))

  inserted-alone : (cmp : X → X → Ordering) (p : X → Bool) (new : X) (xs : List X) → p new ≡ true
      → AllByRecursion (λ x. p x ≡ false) xs → filter p (insert_sorted cmp new xs) ≡ new ∷ []
  inserted-alone cmp p new [] passes none = ap (λ b. cond b (new ∷ []) []) passes
  inserted-alone cmp p new (x ∷ xs) passes none =
      elim (is_gt (cmp new x)) as (λ b. filter p (cond b (x ∷ insert_sorted cmp new xs) (new ∷ x ∷ xs)) ≡ new ∷ []) [
        | true ↦
            ap (λ b. cond b (x ∷ filter p (insert_sorted cmp new xs)) (filter p (insert_sorted cmp new xs))) none.0
            ∙ inserted-alone cmp p new xs passes none.1
        | false ↦
            ap (λ b. cond b (new ∷ filter p (x ∷ xs)) (filter p (x ∷ xs))) passes
            ∙ ap (λ more. new ∷ more) (filter_none p (x ∷ xs) none)
      ]

  -- under its own key a row that is put in is alone
  pub with_key-put_own : (width : ℕ) (key : Row) (new : X) (xs : List X) → has_key width key (encode new) ≡ true
      → with_key encode width key (put_in encode width new xs) ≡ new ∷ []
  with_key-put_own width key new xs own =
      inserted-alone (row_order encode width) (λ x. has_key width key (encode x)) new (without_key encode width (encode new) xs) own
      (all_weaker (λ x. has_key width (encode new) (encode x) ≡ false) (λ x. has_key width key (encode x) ≡ false)
      (λ x fails. same_keys width key (encode new) (encode x) own ∙ fails) (without_key encode width (encode new) xs)
      (without_key-none encode width (encode new) xs))

  -- rows of a key that ties with no row of another stay, where that one's row is taken out
  kept_without : (shorter width : ℕ) (key other : Row) (xs : List X) → shorter ≤ width → has_key shorter key other ≡ false
      → with_key encode shorter key (without_key encode width other xs) ≡ with_key encode shorter key xs
  kept_without shorter width key other xs within apart =
      filter_both (λ x. has_key shorter key (encode x)) (λ x. not (has_key width other (encode x))) xs (all_from _ xs (λ x has passes. stays x passes))
    where
      stays : (x : X) → has_key shorter key (encode x) ≡ true → not (has_key width other (encode x)) ≡ true
      stays x passes = elim (cases_Bool (has_key width other (encode x))) [
        | inl same ↦
            absurd (true≢false (sym passes ∙ has_key-tied shorter width key (encode x) other within same ∙ apart))
        | inr differs ↦ ap not differs
      ]

  -- a row that is put in leaves the rows of another key, whole or shorter
  pub with_key-put_other : (shorter width : ℕ) (key : Row) (new : X) (xs : List X) → shorter ≤ width
      → has_key shorter key (encode new) ≡ false
      → with_key encode shorter key (put_in encode width new xs) ≡ with_key encode shorter key xs
  with_key-put_other shorter width key new xs within apart =
      filter-inserted_out (row_order encode width) (row_order-total encode width) (λ x. has_key shorter key (encode x)) new
      (without_key encode width (encode new) xs) apart
      ∙ kept_without shorter width key (encode new) xs within apart

  -- it is in its place among the rows of a shorter key
  pub with_key-put_among : (shorter width : ℕ) (key : Row) (new : X) (xs : List X) → has_key shorter key (encode new) ≡ true
      → IsRising encode width xs
      → with_key encode shorter key (put_in encode width new xs) ≡ put_in encode width new (with_key encode shorter key xs)
  with_key-put_among shorter width key new xs own up =
      filter-inserted_in (row_order encode width) (row_order-total encode width) (λ x. has_key shorter key (encode x)) new
      (without_key encode width (encode new) xs) own (rises-without_key encode width (encode new) xs up)
      ∙ ap (insert_sorted (row_order encode width) new)
      (filters-turned (λ x. has_key shorter key (encode x)) (λ x. not (has_key width (encode new) (encode x))) xs)

  -- and behind all rows that are below it
  pub put_in-last : (width : ℕ) (new : X) (xs : List X) → AllByRecursion (λ x. row_order encode width x new ≡ Less) xs
      → put_in encode width new xs ≡ xs ++ new ∷ []
  put_in-last width new xs below =
      ap (insert_sorted (row_order encode width) new)
      (filter_all (λ x. not (has_key width (encode new) (encode x))) xs
      (all_weaker (λ x. row_order encode width x new ≡ Less) (λ x. not (has_key width (encode new) (encode x)) ≡ true)
      (λ x less. ap (λ o. not (is_eq o)) less) xs below))
      ∙ inserted-last (row_order encode width) (row_order-total encode width) new xs below

  all_passing : (p : X → Bool) (P : X → Type 0) (xs : List X) → AllByRecursion (λ x. p x ≡ true → P x) xs
      → AllByRecursion P (filter p xs)
  all_passing p P [] all = tt
  all_passing p P (x ∷ xs) all = by (p x) refl (all_passing p P xs all.1)
    where
      by : (b : Bool) → p x ≡ b → AllByRecursion P (filter p xs) → AllByRecursion P (cond b (x ∷ filter p xs) (filter p xs))
      by true here more = (all.0 here, more)
      by false out more = more

  pub with_key-put_last : (shorter width : ℕ) (key : Row) (new : X) (xs : List X) → has_key shorter key (encode new) ≡ true
      → IsRising encode width xs
      → AllByRecursion (λ x. has_key shorter key (encode x) ≡ true → row_order encode width x new ≡ Less) xs
      → with_key encode shorter key (put_in encode width new xs) ≡ with_key encode shorter key xs ++ new ∷ []
  with_key-put_last shorter width key new xs own up below =
      with_key-put_among shorter width key new xs own up
      ∙ put_in-last width new (with_key encode shorter key xs)
      (all_passing (λ x. has_key shorter key (encode x)) (λ x. row_order encode width x new ≡ Less) xs below)

  -- no row is left under a key whose row is taken out
  pub with_key-without_own : (width : ℕ) (key other : Row) (xs : List X) → has_key width key other ≡ true
      → with_key encode width key (without_key encode width other xs) ≡ []
  with_key-without_own width key other xs same =
      filter_none (λ x. has_key width key (encode x)) (without_key encode width other xs)
      (all_weaker (λ x. has_key width other (encode x) ≡ false) (λ x. has_key width key (encode x) ≡ false)
      (λ x fails. same_keys width key other (encode x) same ∙ fails) (without_key encode width other xs)
      (without_key-none encode width other xs))

  pub with_key-without_other : (shorter width : ℕ) (key other : Row) (xs : List X) → shorter ≤ width
      → has_key shorter key other ≡ false
      → with_key encode shorter key (without_key encode width other xs) ≡ with_key encode shorter key xs
  with_key-without_other = kept_without

  -- ---- the row of a key

  abbrev pub first_with_key : ℕ → Row → List X → Option X
  first_with_key width key xs = slice_get (with_key encode width key xs) 0

  -- the row of a key after a row is put in: that one where the key is its own
  pub row-put : (width : ℕ) (key : Row) (new : X) (xs : List X)
      → first_with_key width key (put_in encode width new xs)
      ≡ cond (has_key width key (encode new)) (Some new) (first_with_key width key xs)
  row-put width key new xs = by (has_key width key (encode new)) refl
    where
      by : (b : Bool) → has_key width key (encode new) ≡ b
          → first_with_key width key (put_in encode width new xs) ≡ cond b (Some new) (first_with_key width key xs)
      by true own = ap (λ rows. slice_get rows 0) (with_key-put_own width key new xs own)
      by false apart = ap (λ rows. slice_get rows 0) (with_key-put_other width width key new xs (omega arith) apart)

  -- and after the row of a key is taken out: none where the key is that one
  pub row-without : (width : ℕ) (key other : Row) (xs : List X)
      → first_with_key width key (without_key encode width other xs)
      ≡ cond (has_key width key other) None (first_with_key width key xs)
  row-without width key other xs = by (has_key width key other) refl
    where
      by : (b : Bool) → has_key width key other ≡ b
          → first_with_key width key (without_key encode width other xs) ≡ cond b None (first_with_key width key xs)
      by true same = ap (λ rows. slice_get rows 0) (with_key-without_own width key other xs same)
      by false apart = ap (λ rows. slice_get rows 0) (kept_without width width key other xs (omega arith) apart)

  -- the row of a key is one of the rows, and has the key
  pub row-there : (width : ℕ) (key : Row) (xs : List X) (x : X) → first_with_key width key xs ≡ Some x
      → Has xs x × (has_key width key (encode x) ≡ true)
  row-there width key xs x found =
      has_filtered (λ y. has_key width key (encode y)) xs x (has_got (with_key encode width key xs) 0 x found)

  -- where the rows rise, a row is the only one of its key
  pub with_key-only : (width : ℕ) (key : Row) (xs : List X) (x : X) → IsRising encode width xs → Has xs x
      → has_key width key (encode x) ≡ true → with_key encode width key xs ≡ x ∷ []
  with_key-only width key [] x up has own = absurd has
  with_key-only width key (y ∷ xs) x up (inl here) own =
      ap (λ b. cond b (y ∷ with_key encode width key xs) (with_key encode width key xs)) (ap (λ z. has_key width key (encode z)) (sym here) ∙ own)
      ∙ ap (λ more. y ∷ more) (filter_none (λ z. has_key width key (encode z)) xs
      (all_weaker (λ z. row_order encode width y z ≡ Less) (λ z. has_key width key (encode z) ≡ false)
      (λ z less. above z less) xs up.0))
      ∙ ap (λ z. z ∷ []) (sym here)
    where
      total : IsTotalOrder (key_order width)
      total = key_order-total width

      above : (z : X) → row_order encode width y z ≡ Less → has_key width key (encode z) ≡ false
      above z less =
          same_keys width key (encode x) (encode z) own
          ∙ ap (λ w. has_key width (encode w) (encode z)) here
          ∙ ap is_eq (total.antisymm (encode z) (encode y) ∙ ap ordering_reverse less)
  with_key-only width key (y ∷ xs) x up (inr later) own =
      ap (λ b. cond b (y ∷ with_key encode width key xs) (with_key encode width key xs))
      (same_keys width key (encode x) (encode y) own
      ∙ ap is_eq (all_has (λ z. row_order encode width y z ≡ Less) xs x up.0 later))
      ∙ with_key-only width key xs x up.1 later own

  pub row-only : (width : ℕ) (key : Row) (xs : List X) (x : X) → IsRising encode width xs → Has xs x
      → has_key width key (encode x) ≡ true → first_with_key width key xs ≡ Some x
  row-only width key xs x up has own = ap (λ rows. slice_get rows 0) (with_key-only width key xs x up has own)

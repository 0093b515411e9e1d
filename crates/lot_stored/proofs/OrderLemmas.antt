-- Lists in the order of a key: a row that is put in or taken out keeps their order, and what each row meets.
use Rattle.std.specs.Prelude.{◌≡◌, ℕ, Bool, true, false, not, cond, List, [], ◌∷◌, ◌++◌, All}
use Rattle.std.specs.Cmp.{IsTotalOrder}
use Rattle.std.specs.List.{AllByRecursion}
use Rattle.std.specs.Ordering.{is_eq, is_gt, ordering_reverse}
use Rattle.std.specs.declared.cmp.Ordering.{Ordering}
use Rattle.std.specs.declared.cmp.Ordering.TheVariants.{Less, Equal, Greater}
use Rattle.std.proofs.Common.{refl, sym, ap, ◌∙◌}
use Rattle.std.proofs.lemmas.Bool.{true≢false}
use Rattle.std.proofs.lemmas.Cmp.{on_total}
use Rattle.std.proofs.lemmas.List.Elements.{All-from_recursion, recursion_from_All}
use Rattle.sqlite.specs.Order.{Row}
use Rattle.sqlite.specs.Tree.{IsAscending}
use Rattle.sqlite_keyed.specs.Lists.{insert_sorted}
use Rattle.sqlite_keyed.proofs.ListLemmas.{all-filter, all_weaker, ascending-append, ascending-filter}
use Rattle.sqlite_rules.proofs.ListLemmas.{all_from, has_filtered}
use Rattle.sqlite_sql.proofs.QueryLemmas.{key_cmp_total}
use Rattle.sqlite_value.specs.Keys.{rising}
use Rattle.lot_table.specs.Rows.{has_key, key_order, put_in, without_key}

-- ---- the order of a key

pub key_order-total : (width : ℕ) → IsTotalOrder (key_order width)
key_order-total width = key_cmp_total (rising width []) 0

-- the order of values by the keys of their rows
abbrev pub row_order : {X : Type 0} → (X → Row) → ℕ → X → X → Ordering
row_order encode width a b = key_order width (encode a) (encode b)

pub row_order-total : {X : Type 0} (encode : X → Row) (width : ℕ) → IsTotalOrder (row_order encode width)
row_order-total encode width = on_total encode (key_order-total width)

-- values in the order of the keys of their rows, no two of which are the same
abbrev pub IsRising : {X : Type 0} → (X → Row) → ℕ → List X → Type 0
IsRising encode width = IsAscending (λ a b. row_order encode width a b ≡ Less)

-- ---- inserting

module _ {X : Type 0} (cmp : X → X → Ordering) (total : IsTotalOrder cmp) where
  pub all-inserted : (P : X → Type 0) (new : X) (xs : List X) → P new → AllByRecursion P xs
      → AllByRecursion P (insert_sorted cmp new xs)
  all-inserted P new [] here all = (here, tt)
  all-inserted P new (x ∷ xs) here all =
      elim (is_gt (cmp new x)) as (λ b. AllByRecursion P (cond b (x ∷ insert_sorted cmp new xs) (new ∷ x ∷ xs))) [
        | true ↦ (all.0, all-inserted P new xs here all.1)
        | false ↦ (here, all)
      ]

  pub rises-inserted : (new : X) (xs : List X) → AllByRecursion (λ x. is_eq (cmp x new) ≡ false) xs
      → IsAscending (λ a b. cmp a b ≡ Less) xs → IsAscending (λ a b. cmp a b ≡ Less) (insert_sorted cmp new xs)
  rises-inserted new [] apart up = (tt, tt)
  rises-inserted new (x ∷ xs) apart up = by (cmp new x) refl (rises-inserted new xs apart.1 up.1)
    where
      by : (o : Ordering) → cmp new x ≡ o → IsAscending (λ a b. cmp a b ≡ Less) (insert_sorted cmp new xs)
          → IsAscending (λ a b. cmp a b ≡ Less) (cond (is_gt o) (x ∷ insert_sorted cmp new xs) (new ∷ x ∷ xs))
      by Less e more = ((e, all_weaker _ (λ y. cmp new y ≡ Less) (λ y. total.trans new x y e) xs up.0), up)
      by Equal e more = absurd (true≢false (sym (ap is_eq (total.antisymm x new ∙ ap ordering_reverse e)) ∙ apart.0))
      by Greater e more = (all-inserted _ new xs (total.antisymm x new ∙ ap ordering_reverse e) up.0, more)

  -- behind all that are below it
  pub inserted-last : (new : X) (xs : List X) → AllByRecursion (λ x. cmp x new ≡ Less) xs
      → insert_sorted cmp new xs ≡ xs ++ new ∷ []
  inserted-last new [] below = refl
  inserted-last new (x ∷ xs) below =
      let above : cmp new x ≡ Greater = total.antisymm new x ∙ ap ordering_reverse below.0 in
      ap (λ o. cond (is_gt o) (x ∷ insert_sorted cmp new xs) (new ∷ x ∷ xs)) above ∙ ap (λ more. x ∷ more) (inserted-last new xs below.1)

-- ---- rows that are put in and taken out

module _ {X : Type 0} (encode : X → Row) (width : ℕ) where
  passes_not : (b : Bool) → not b ≡ true → b ≡ false
  passes_not true e = absurd (true≢false (sym e))
  passes_not false e = refl

  -- none that is left has the key
  pub without_key-none : (key : Row) (xs : List X)
      → AllByRecursion (λ x. has_key width key (encode x) ≡ false) (without_key encode width key xs)
  without_key-none key xs =
      all_from _ (without_key encode width key xs)
      (λ x has. passes_not (has_key width key (encode x)) (has_filtered (λ y. not (has_key width key (encode y))) xs x has).1)

  pub rises-without_key : (key : Row) (xs : List X) → IsRising encode width xs
      → IsRising encode width (without_key encode width key xs)
  rises-without_key key xs up =
      ascending-filter (λ a b. row_order encode width a b ≡ Less) (λ x. not (has_key width key (encode x))) xs up

  pub rises-put_in : (new : X) (xs : List X) → IsRising encode width xs → IsRising encode width (put_in encode width new xs)
  rises-put_in new xs up =
      rises-inserted (row_order encode width) (row_order-total encode width) new (without_key encode width (encode new) xs)
      (without_key-none (encode new) xs) (rises-without_key (encode new) xs up)

  pub rises-last : (new : X) (xs : List X) → IsRising encode width xs → AllByRecursion (λ x. row_order encode width x new ≡ Less) xs
      → IsRising encode width (xs ++ new ∷ [])
  rises-last new xs up below =
      ascending-append (λ a b. row_order encode width a b ≡ Less) xs (new ∷ []) up (tt, tt)
      (all_weaker _ _ (λ x less. (less, tt)) xs below)

  pub all-without_key : (P : X → Type 0) (key : Row) (xs : List X) → All P xs → All P (without_key encode width key xs)
  all-without_key P key xs all =
      All-from_recursion P (without_key encode width key xs)
      (all-filter P (λ x. not (has_key width key (encode x))) xs (recursion_from_All P xs all))

  pub all-put_in : (P : X → Type 0) (new : X) (xs : List X) → P new → All P xs → All P (put_in encode width new xs)
  all-put_in P new xs here all =
      All-from_recursion P (put_in encode width new xs)
      (all-inserted (row_order encode width) (row_order-total encode width) P new (without_key encode width (encode new) xs) here
      (recursion_from_All P (without_key encode width (encode new) xs) (all-without_key P (encode new) xs all)))

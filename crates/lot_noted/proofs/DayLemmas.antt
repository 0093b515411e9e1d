-- Legs in the order of days are in the order of their keys.
use Rattle.std.specs.Prelude.{◌≡◌, true, false, cond, List, [], ◌∷◌, filter}
use Rattle.std.specs.Cmp.{IsTotalOrder}
use Rattle.std.specs.List.{AllByRecursion}
use Rattle.std.specs.Ordering.{int_cmp, is_gt, nat_cmp, ordering_reverse, ordering_then}
use Rattle.std.specs.declared.cmp.Ordering.{Ordering}
use Rattle.std.specs.declared.cmp.Ordering.TheVariants.{Less, Equal, Greater}
use Rattle.std.proofs.Common.{refl, sym, ap, ◌∙◌}
use Rattle.std.proofs.lemmas.Cmp.{int_cmp_total, nat_cmp_total, on_total, then_total}
use Rattle.sqlite.specs.Tree.{IsAscending}
use Rattle.sqlite_keyed.specs.Lists.{insert_sorted, sort_by}
use Rattle.sqlite_keyed.proofs.ListLemmas.{all_weaker, ascending-filter}
use Rattle.lot_register.specs.declared.leg.NotedLeg.{NotedLeg}
use Rattle.lot_noted.specs.Book.{by_day, day_cmp}
use Rattle.lot_noted.specs.Keys.{key_cmp, key_of}
use Rattle.lot_noted.specs.declared.key.LegKey.{LegKey}

-- ---- the orders

-- by entry, posting and place
abbrev pub place_cmp : NotedLeg → NotedLeg → Ordering
place_cmp a b = ordering_then (nat_cmp a.entry b.entry) (ordering_then (nat_cmp a.posting b.posting) (nat_cmp a.place b.place))

abbrev pub IsPlacedBelow : NotedLeg → NotedLeg → Type 0
IsPlacedBelow a b = place_cmp a b ≡ Less

abbrev pub IsListedBelow : NotedLeg → NotedLeg → Type 0
IsListedBelow a b = key_cmp (key_of a) (key_of b) ≡ Less

pub days_total : IsTotalOrder day_cmp
days_total = on_total (λ (leg : NotedLeg). leg.day) int_cmp_total

pub keys_total : IsTotalOrder key_cmp
keys_total =
    then_total (on_total (λ (k : LegKey). k.day) int_cmp_total)
    (then_total (on_total (λ (k : LegKey). k.entry) nat_cmp_total)
    (then_total (on_total (λ (k : LegKey). k.posting) nat_cmp_total) (on_total (λ (k : LegKey). k.place) nat_cmp_total)))

-- ---- one leg more

all_inserted : (P : NotedLeg → Type 0) (new : NotedLeg) (xs : List NotedLeg) → P new → AllByRecursion P xs
    → AllByRecursion P (insert_sorted day_cmp new xs)
all_inserted P new [] here all = (here, tt)
all_inserted P new (x ∷ xs) here all =
    elim (is_gt (day_cmp new x)) as (λ b. AllByRecursion P (cond b (x ∷ insert_sorted day_cmp new xs) (new ∷ x ∷ xs))) [
      | true ↦ (all.0, all_inserted P new xs here all.1)
      | false ↦ (here, all)
    ]

all_sorted : (P : NotedLeg → Type 0) (xs : List NotedLeg) → AllByRecursion P xs → AllByRecursion P (by_day xs)
all_sorted P [] all = tt
all_sorted P (x ∷ xs) all = all_inserted P x (by_day xs) all.0 (all_sorted P xs all.1)

by_the_day : (a b : NotedLeg) → day_cmp a b ≡ Less → IsListedBelow a b
by_the_day a b e = ap (λ o. ordering_then o (place_cmp a b)) e

by_the_place : (a b : NotedLeg) → day_cmp a b ≡ Equal → IsPlacedBelow a b → IsListedBelow a b
by_the_place a b e below = ap (λ o. ordering_then o (place_cmp a b)) e ∙ below

turned : (a b : NotedLeg) → day_cmp a b ≡ Greater → day_cmp b a ≡ Less
turned a b e = int_cmp_total.antisymm b.day a.day ∙ ap ordering_reverse e

inserted_up : (new : NotedLeg) (xs : List NotedLeg) → AllByRecursion (IsPlacedBelow new) xs → IsAscending IsListedBelow xs
    → IsAscending IsListedBelow (insert_sorted day_cmp new xs)
inserted_up new [] placed up = (tt, tt)
inserted_up new (x ∷ xs) placed up = by (day_cmp new x) refl (inserted_up new xs placed.1 up.1)
  where
    first : IsListedBelow new x → IsAscending IsListedBelow (new ∷ x ∷ xs)
    first below =
        ((below, all_weaker (IsListedBelow x) (IsListedBelow new) (λ y next. keys_total.trans (key_of new) (key_of x) (key_of y) below next) xs up.0), up)

    by : (o : Ordering) → day_cmp new x ≡ o → IsAscending IsListedBelow (insert_sorted day_cmp new xs)
        → IsAscending IsListedBelow (cond (is_gt o) (x ∷ insert_sorted day_cmp new xs) (new ∷ x ∷ xs))
    by Less e more = first (by_the_day new x e)
    by Equal e more = first (by_the_place new x e placed.0)
    by Greater e more = (all_inserted (IsListedBelow x) new xs (by_the_day x new (turned new x e)) up.0, more)

-- ---- all of them

pub sorted_up : (xs : List NotedLeg) → IsAscending IsPlacedBelow xs → IsAscending IsListedBelow (by_day xs)
sorted_up [] placed = tt
sorted_up (x ∷ xs) placed = inserted_up x (by_day xs) (all_sorted (IsPlacedBelow x) xs placed.0) (sorted_up xs placed.1)

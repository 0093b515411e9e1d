-- The order of judging is a total order, and its ties have one number.
use Rattle.std.specs.Prelude.{◌≡◌, ℕ, ◌==◌, ◌+◌, false, List, [], ◌∷◌}
use Rattle.std.specs.declared.cmp.Ordering.{Ordering}
use Rattle.std.specs.declared.cmp.Ordering.TheVariants.{Less, Equal, Greater}
use Rattle.std.specs.Cmp.{IsStrictWeakOrder, IsTotalOrder}
use Rattle.std.specs.List.{IsDistinct}
use Rattle.std.specs.List.Sorted.{IsPermutation, IsSorted, IsStrictlySortedBy}
use Rattle.std.specs.Ordering.{nat_cmp, int_cmp, is_lt, ordering_reverse, ordering_then}
use Rattle.std.proofs.Common.{arith, ap, refl, sym, ◌∙◌, get_or}
use Rattle.std.proofs.lemmas.Bool.Decides.{nat_tests}
use Rattle.std.proofs.lemmas.Cmp.{alike_right, back_total, int_cmp_total, nat_cmp_total, on_total, then_total}
use Rattle.std.proofs.lemmas.List.MinMax.{ranks_by}
use Rattle.std.proofs.lemmas.List.Sorted.{Contains-permutation, IsPermutation-sym}
use Rattle.std.proofs.lemmas.Map.Keys.{IsDistinct-IsPermutation, apart_from_distinct, sorted_from_all_adjacent}
use Rattle.lot_profile.specs.declared.table.Order.{Order}
use Rattle.lot_profile.specs.declared.table.Order.TheVariants.{OldestFirst, NewestFirst, ByDay, ByDayNewestFirst}
use Rattle.lot_sequence.specs.Order.{ThereIsOneOrder, TiesHaveOneNumber, order_of, row_cmp, table_cmp, time_of}
use Rattle.lot_sequence.specs.declared.row.Row.{Row}
use Rattle.lot_sequence.proofs.OneList.{one_list}

-- ---- an order among the ties of another, which may depend on where they are

turned : (r back s t : Ordering) → r ≡ ordering_reverse back → (back ≡ Equal → s ≡ ordering_reverse t)
    → ordering_then r s ≡ ordering_reverse (ordering_then back t)
turned r Less s t is tied = ap (λ o. ordering_then o s) is
turned r Equal s t is tied = ap (λ o. ordering_then o s) is ∙ tied refl
turned r Greater s t is tied = ap (λ o. ordering_then o s) is

chained : (p q r s t u : Ordering) → (p ≡ Less → q ≡ Less → r ≡ Less) → (p ≡ Less → q ≡ Equal → r ≡ Less) → (p ≡ Equal → r ≡ q)
    → (p ≡ Equal → q ≡ Equal → s ≡ Less → t ≡ Less → u ≡ Less)
    → ordering_then p s ≡ Less → ordering_then q t ≡ Less → ordering_then r u ≡ Less
chained Less Less r s t u both first tied last h k = ap (λ o. ordering_then o u) (both refl refl)
chained Less Equal r s t u both first tied last h k = ap (λ o. ordering_then o u) (first refl refl)
chained Less Greater r s t u both first tied last h k = cc
chained Equal Less r s t u both first tied last h k = ap (λ o. ordering_then o u) (tied refl)
chained Equal Equal r s t u both first tied last h k = ap (λ o. ordering_then o u) (tied refl) ∙ last refl refl h k
chained Equal Greater r s t u both first tied last h k = cc
chained Greater q r s t u both first tied last h k = cc

pub first_tied : (r s : Ordering) → ordering_then r s ≡ Equal → r ≡ Equal
first_tied Less s h = cc
first_tied Equal s h = refl
first_tied Greater s h = cc

pub second_tied : (r s : Ordering) → ordering_then r s ≡ Equal → s ≡ Equal
second_tied Less s h = cc
second_tied Equal s h = h
second_tied Greater s h = cc

module _ {K : Type 0} {R : K → K → Ordering} (total : IsTotalOrder R) (S : K → K → K → Ordering) (each : (x : K) → IsTotalOrder (S x))
    (tie : (x y : K) → R x y ≡ Equal → (a b : K) → S x a b ≡ S y a b) where
  pub then_by_total : IsTotalOrder (λ x y. ordering_then (R x y) (S x x y))
  then_by_total = record {
    antisymm = λ x y. turned (R x y) (R y x) (S x x y) (S y y x) (total.antisymm x y)
        (λ tied. (each x).antisymm x y ∙ ap ordering_reverse (sym (tie y x tied y x)));
    trans = λ x y z. chained (R x y) (R y z) (R x z) (S x x y) (S y y z) (S x x z)
        (total.trans x y z)
        (λ less tied. sym (alike_right total y z x tied) ∙ less)
        (total.congr x y z)
        (λ tied _ one two. (each x).trans x y z one (tie x y tied y z ∙ two));
    congr = λ x y z tied.
        let alike = total.congr x y z (first_tied (R x y) (S x x y) tied) in
        let under : S x x z ≡ S y y z = (each x).congr x y z (second_tied (R x y) (S x x y) tied) ∙ tie x y (first_tied (R x y) (S x x y) tied) y z in
        ap (λ o. ordering_then o (S x x z)) alike ∙ ap (λ o. ordering_then (R y z) o) under;
  }

-- ---- the order of rows

number : Row → ℕ
number row = row.number

in_tables : (order : Order) → IsTotalOrder (table_cmp order)
in_tables OldestFirst = on_total (λ (row : Row). row.number) nat_cmp_total
in_tables NewestFirst = back_total (on_total (λ (row : Row). row.number) nat_cmp_total)
in_tables ByDay = then_total (on_total time_of nat_cmp_total) (on_total (λ (row : Row). row.number) nat_cmp_total)
in_tables ByDayNewestFirst = then_total (on_total time_of nat_cmp_total) (back_total (on_total (λ (row : Row). row.number) nat_cmp_total))

nat_tied : (x y : ℕ) → nat_cmp x y ≡ Equal → x ≡ y
nat_tied x y h = grind (arith, nat_tests)

-- the day and the table of a row decide first
abbrev place_cmp : Row → Row → Ordering
place_cmp a b = ordering_then (int_cmp a.day b.day) (nat_cmp a.table b.table)

places_total : IsTotalOrder place_cmp
places_total = then_total (on_total (λ (row : Row). row.day) int_cmp_total) (on_total (λ (row : Row). row.table) nat_cmp_total)

pub rows_total : (orders : List Order) → IsTotalOrder (row_cmp orders)
rows_total orders = then_by_total places_total (λ x a b. table_cmp (order_of orders x.table) a b) (λ x. in_tables (order_of orders x.table))
    (λ x y tied a b. ap (λ table. table_cmp (order_of orders table) a b)
    (nat_tied x.table y.table (second_tied (int_cmp x.day y.day) (nat_cmp x.table y.table) tied)))

pub rows_rank : (orders : List Order) → IsStrictWeakOrder (λ a b. is_lt (row_cmp orders a b))
rows_rank orders = ranks_by (rows_total orders) (λ row. row)

-- ---- there is one

number_tied : (order : Order) (a b : Row) → table_cmp order a b ≡ Equal → a.number ≡ b.number
number_tied OldestFirst a b h = nat_tied a.number b.number h
number_tied NewestFirst a b h = sym (nat_tied b.number a.number h)
number_tied ByDay a b h = nat_tied a.number b.number (second_tied (nat_cmp (time_of a) (time_of b)) (nat_cmp a.number b.number) h)
number_tied ByDayNewestFirst a b h = sym (nat_tied b.number a.number (second_tied (nat_cmp (time_of a) (time_of b)) (nat_cmp b.number a.number) h))

less_by : (o : Ordering) → is_lt o ≡ false → (o ≡ Equal → ⊥) → ordering_reverse o ≡ Less
less_by Less not_less untied = cc
less_by Equal not_less untied = absurd (untied refl)
less_by Greater not_less untied = refl

pub ties : TiesHaveOneNumber
ties orders a b tied = number_tied (order_of orders a.table) a b (second_tied (place_cmp a b) (table_cmp (order_of orders a.table) a b) tied)

rises : (orders : List Order) (a b : Row) → is_lt (row_cmp orders b a) ≡ false → (a.number == b.number) ≡ false → row_cmp orders a b ≡ Less
rises orders a b not_less apart =
    (rows_total orders).antisymm a b
    ∙ less_by (row_cmp orders b a) not_less (λ tied.
    let same : b.number ≡ a.number = ties orders b a tied in
    grind (arith, nat_tests))

nothing_rises : (compare : Row → Row → Ordering) → IsStrictlySortedBy compare []
unfolding IsStrictlySortedBy
nothing_rises compare = tt

strictly : (orders : List Order) (rows : List Row) → IsSorted (row_cmp orders) rows → IsDistinct (λ a b. a.number == b.number) rows
    → IsStrictlySortedBy (row_cmp orders) rows
strictly orders [] sorted distinct = nothing_rises (row_cmp orders)
strictly orders (row ∷ rows) sorted distinct =
    sorted_from_all_adjacent (rows_total orders) (row ∷ rows) row (λ k within.
    rises orders (get_or (row ∷ rows) k row) (get_or (row ∷ rows) (k + 1) row) (sorted k row (omega arith) within)
    (apart_from_distinct (λ a b. a.number == b.number) (row ∷ rows) k (k + 1) row distinct (omega arith) within))

pub one_order : ThereIsOneOrder
one_order orders rows first second distinct to_first first_sorted to_second second_sorted =
    let flips : (a b : Row) → (a.number == b.number) ≡ (b.number == a.number) = λ a b. grind (arith, nat_tests) in
    let apart = λ (moved : List Row) (same : IsPermutation rows moved). IsDistinct-IsPermutation (λ (a b : Row). a.number == b.number) flips rows moved same distinct in
    one_list (rows_total orders) first second (strictly orders first first_sorted (apart first to_first)) (strictly orders second second_sorted (apart second to_second))
    (λ z within. Contains-permutation rows second z to_second (Contains-permutation first rows z (IsPermutation-sym rows first to_first) within))
    (λ z within. Contains-permutation rows first z to_first (Contains-permutation second rows z (IsPermutation-sym rows second to_second) within))

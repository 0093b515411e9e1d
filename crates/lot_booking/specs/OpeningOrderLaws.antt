-- The orders by opening are orders, whatever opening numbers the keys have. What implements an order names its law here.
use Rattle.std.specs.Prelude.{◌≡◌, ℕ}
use Rattle.std.specs.declared.cmp.Ordering.{Ordering}
use Rattle.std.specs.declared.cmp.Ordering.TheVariants.{Equal}
use Rattle.std.specs.Cmp.{IsStrictWeakOrder, IsTotalOrder}
use Rattle.std.specs.Ordering.{nat_cmp, int_cmp, is_lt, ordering_then}
use Rattle.std.proofs.lemmas.Cmp.{back_total, then_total, on_total, nat_cmp_total, int_cmp_total}
use Rattle.std.proofs.lemmas.List.Sorted.{ranks_by}
use Rattle.std.proofs.lemmas.Map.Lookups.{CmpEqualImpliesEq}
use Rattle.lot_base.proofs.OrderLemmas.{equal_parts}
use Rattle.lot_cost.proofs.OrderLemmas.{lots_total, exact_lots}
use Rattle.lot_cost.specs.LotKey.{lot_cmp}
use Rattle.lot_cost.specs.declared.lot_key.LotKey.{LotKey}
use Rattle.lot_booking.specs.OpeningOrder.{OpenedLot, by_opening, highest_opened_cmp, highest_opened_first, newest_opened_cmp, newest_opened_first, oldest_opened_cmp, oldest_opened_first, opened_cmp}
use Rattle.lot_booking.specs.Order.{IsOrder}
use Rattle.lot_booking.specs.OrderLaws.{is_order}

-- ---- comparisons that begin with another one, and go on by opening

opened_total : IsTotalOrder opened_cmp
opened_total = then_total (on_total (λ (lot : OpenedLot). lot.1) nat_cmp_total) (on_total (λ (lot : OpenedLot). lot.0) lots_total)

-- lots that tie have one key
one_key : (first : Ordering) (a b : OpenedLot) → ordering_then first (opened_cmp a b) ≡ Equal → a.0 ≡ b.0
one_key first a b e =
    let opened = (equal_parts first (opened_cmp a b) e).1 in
    exact_lots a.0 b.0 (equal_parts (nat_cmp a.1 b.1) (lot_cmp a.0 b.0) opened).1

module _ (first : OpenedLot → OpenedLot → Ordering) (total : IsTotalOrder first) where
  abbrev compare : OpenedLot → OpenedLot → Ordering
  compare a b = ordering_then (first a b) (opened_cmp a b)

  compare_total : IsTotalOrder compare
  compare_total = then_total total opened_total

  compare_keys : (opening : LotKey → ℕ) → IsTotalOrder (λ (a b : LotKey). compare (a, opening a) (b, opening b))
  compare_keys opening = on_total (λ (key : LotKey). (key, opening key)) compare_total

  -- keys that tie are one
  exact_keys : (opening : LotKey → ℕ) → CmpEqualImpliesEq (λ (a b : LotKey). compare (a, opening a) (b, opening b))
  exact_keys opening a b e = one_key (first (a, opening a) (b, opening b)) (a, opening a) (b, opening b) e

  opened_is_order : (opening : LotKey → ℕ) → IsOrder (by_opening compare opening)
  opened_is_order opening = is_order (compare_keys opening) (exact_keys opening)

  opened_is_weak_order : IsStrictWeakOrder (λ (a b : OpenedLot). is_lt (compare a b))
  opened_is_weak_order = ranks_by compare_total (λ (lot : OpenedLot). lot)

days_total : IsTotalOrder (λ (a b : OpenedLot). int_cmp a.0.day b.0.day)
days_total = on_total (λ (lot : OpenedLot). lot.0.day) int_cmp_total

numbers_total : IsTotalOrder (λ (a b : OpenedLot). nat_cmp a.0.number b.0.number)
numbers_total = on_total (λ (lot : OpenedLot). lot.0.number) nat_cmp_total

-- ---- the three orders

pub oldest_opened_is_order : (opening : LotKey → ℕ) → IsOrder (by_opening oldest_opened_cmp opening)
oldest_opened_is_order = opened_is_order (λ a b. int_cmp a.0.day b.0.day) days_total

pub oldest_opened_is_weak_order : IsStrictWeakOrder oldest_opened_first
oldest_opened_is_weak_order = opened_is_weak_order (λ a b. int_cmp a.0.day b.0.day) days_total

pub newest_opened_is_order : (opening : LotKey → ℕ) → IsOrder (by_opening newest_opened_cmp opening)
newest_opened_is_order = opened_is_order (λ a b. int_cmp b.0.day a.0.day) (back_total days_total)

pub newest_opened_is_weak_order : IsStrictWeakOrder newest_opened_first
newest_opened_is_weak_order = opened_is_weak_order (λ a b. int_cmp b.0.day a.0.day) (back_total days_total)

pub highest_opened_is_order : (opening : LotKey → ℕ) → IsOrder (by_opening highest_opened_cmp opening)
highest_opened_is_order = opened_is_order (λ a b. nat_cmp b.0.number a.0.number) (back_total numbers_total)

pub highest_opened_is_weak_order : IsStrictWeakOrder highest_opened_first
highest_opened_is_weak_order = opened_is_weak_order (λ a b. nat_cmp b.0.number a.0.number) (back_total numbers_total)

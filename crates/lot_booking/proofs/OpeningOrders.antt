-- However ties are decided, the order of a method is one, and distinct openings decide.
use Rattle.std.specs.Prelude.{◌≡◌, ◌≢◌}
use Rattle.std.specs.declared.cmp.Ordering.{Ordering}
use Rattle.std.specs.declared.cmp.Ordering.TheVariants.{Less, Equal, Greater}
use Rattle.std.specs.Ordering.{nat_cmp, int_cmp, ordering_then}
use Rattle.std.proofs.Common.{refl, ap}
use Rattle.std.proofs.lemmas.Map.Lookups.{exact_unsigned}
use Rattle.lot_cost.specs.LotKey.{lot_cmp}
use Rattle.lot_cost.specs.declared.method.Method.{Method}
use Rattle.lot_cost.specs.declared.method.Method.TheVariants.{Strict, Fifo, Lifo, Hifo, Unmatched}
use Rattle.lot_booking.specs.Method.{Ties, ByKey, ByOpening, order_by}
use Rattle.lot_booking.specs.OpeningOrder.{OpenedLot, highest_opened_cmp, newest_opened_cmp, oldest_opened_cmp, opened_cmp}
use Rattle.lot_booking.specs.Order.{IsOrder}
use Rattle.lot_booking.specs.OrderLaws.{oldest_is_order, newest_is_order, highest_is_order}
pub use Rattle.lot_booking.specs.OpeningOrderLaws.{highest_opened_is_order, newest_opened_is_order, oldest_opened_is_order}

-- ---- the order of a method

pub is_order_by : (ties : Ties) (method : Method) → IsOrder (order_by ties method)
is_order_by ties Strict = oldest_is_order
is_order_by ByKey Fifo = oldest_is_order
is_order_by ByKey Lifo = newest_is_order
is_order_by ByKey Hifo = highest_is_order
is_order_by (ByOpening opening) Fifo = oldest_opened_is_order opening
is_order_by (ByOpening opening) Lifo = newest_opened_is_order opening
is_order_by (ByOpening opening) Hifo = highest_opened_is_order opening
is_order_by ties Unmatched = oldest_is_order

-- ---- distinct openings

decided : (first more : Ordering) → first ≢ Equal → ordering_then first more ≡ first
decided Less more apart = refl
decided Equal more apart = absurd (apart refl)
decided Greater more apart = refl

-- two lots of distinct openings are ordered by them
by_openings : (a b : OpenedLot) → a.1 ≢ b.1 → opened_cmp a b ≡ nat_cmp a.1 b.1
by_openings a b apart = decided (nat_cmp a.1 b.1) (lot_cmp a.0 b.0) (λ e. apart (exact_unsigned a.1 b.1 e))

pub oldest_decided : (a b : OpenedLot) → a.1 ≢ b.1 → oldest_opened_cmp a b ≡ ordering_then (int_cmp a.0.day b.0.day) (nat_cmp a.1 b.1)
oldest_decided a b apart = ap (ordering_then (int_cmp a.0.day b.0.day)) (by_openings a b apart)

pub newest_decided : (a b : OpenedLot) → a.1 ≢ b.1 → newest_opened_cmp a b ≡ ordering_then (int_cmp b.0.day a.0.day) (nat_cmp a.1 b.1)
newest_decided a b apart = ap (ordering_then (int_cmp b.0.day a.0.day)) (by_openings a b apart)

pub highest_decided : (a b : OpenedLot) → a.1 ≢ b.1 → highest_opened_cmp a b ≡ ordering_then (nat_cmp b.0.number a.0.number) (nat_cmp a.1 b.1)
highest_decided a b apart = ap (ordering_then (nat_cmp b.0.number a.0.number)) (by_openings a b apart)

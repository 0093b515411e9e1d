-- In which order edition 2 takes lots: ties go to the lot that was opened first (docs/PROMISES.md, Migration).
use Rattle.std.specs.Prelude.{ℕ, Bool}
use Rattle.std.specs.declared.cmp.Ordering.{Ordering}
use Rattle.std.specs.Ordering.{nat_cmp, int_cmp, is_lt, ordering_then}
use Rattle.lot_cost.specs.LotKey.{lot_cmp}
use Rattle.lot_cost.specs.declared.lot_key.LotKey.{LotKey}

-- the key of a lot, beside its opening number
abbrev pub OpenedLot : Type 0
OpenedLot = LotKey × ℕ

-- the lot that was opened first, and of lots with one opening number the first by key
abbrev pub opened_cmp : OpenedLot → OpenedLot → Ordering
opened_cmp a b = ordering_then (nat_cmp a.1 b.1) (lot_cmp a.0 b.0)

-- the oldest lot first: by day, of one day the lot that was opened first
abbrev pub oldest_opened_cmp : OpenedLot → OpenedLot → Ordering
oldest_opened_cmp a b = ordering_then (int_cmp a.0.day b.0.day) (opened_cmp a b)

abbrev pub oldest_opened_first : OpenedLot → OpenedLot → Bool
oldest_opened_first a b = is_lt (oldest_opened_cmp a b)

-- the newest lot first: by day descending, of one day the lot that was opened first
abbrev pub newest_opened_cmp : OpenedLot → OpenedLot → Ordering
newest_opened_cmp a b = ordering_then (int_cmp b.0.day a.0.day) (opened_cmp a b)

abbrev pub newest_opened_first : OpenedLot → OpenedLot → Bool
newest_opened_first a b = is_lt (newest_opened_cmp a b)

-- the lot of the highest cost first: by number descending, of one number the lot that was opened first
abbrev pub highest_opened_cmp : OpenedLot → OpenedLot → Ordering
highest_opened_cmp a b = ordering_then (nat_cmp b.0.number a.0.number) (opened_cmp a b)

abbrev pub highest_opened_first : OpenedLot → OpenedLot → Bool
highest_opened_first a b = is_lt (highest_opened_cmp a b)

-- a comparison as an order of keys, each of which has an opening number
abbrev pub by_opening : (OpenedLot → OpenedLot → Ordering) → (LotKey → ℕ) → LotKey → LotKey → Bool
by_opening compare opening a b = is_lt (compare (a, opening a) (b, opening b))

-- an order of lots as an order of their keys, each of which has an opening number
abbrev pub by_numbers : (OpenedLot → OpenedLot → Bool) → (LotKey → ℕ) → LotKey → LotKey → Bool
by_numbers before opening a b = before (a, opening a) (b, opening b)

-- an order of keys as an order of lots: it doesn't look at the opening numbers
abbrev pub by_key : (LotKey → LotKey → Bool) → OpenedLot → OpenedLot → Bool
by_key before a b = before a.0 b.0

-- The methods of an account: which choices each allows, and in which order it lists the legs.
use Rattle.std.specs.Prelude.{ℕ, Bool, false, true}
use Rattle.lot_cost.specs.declared.lot_key.LotKey.{LotKey}
use Rattle.lot_cost.specs.declared.method.Method.{Method}
use Rattle.lot_cost.specs.declared.method.Method.TheVariants.{Strict, Fifo, Lifo, Hifo, Unmatched}
use Rattle.lot_booking.specs.Choice.{Rule, OneOrWhole, InTurn}
use Rattle.lot_booking.specs.declared.edition.Edition.{Edition}
use Rattle.lot_booking.specs.declared.edition.Edition.TheVariants.{First, Second}
use Rattle.lot_booking.specs.OpeningOrder.{by_opening, oldest_opened_cmp, newest_opened_cmp, highest_opened_cmp}
use Rattle.lot_booking.specs.Order.{oldest_first, newest_first, highest_first}

-- whether postings under the method may reduce lots
abbrev pub may_reduce : Method → Bool
may_reduce Strict = true
may_reduce Fifo = true
may_reduce Lifo = true
may_reduce Hifo = true
may_reduce Unmatched = false

-- whether the method takes one lot, or each of several whole
abbrev pub is_strict : Method → Bool
is_strict Strict = true
is_strict Fifo = false
is_strict Lifo = false
is_strict Hifo = false
is_strict Unmatched = false

-- how a method's order decides between lots that tie: by the rest of their keys, or by the number that the opening of each
-- lot has, where the lot of the smaller number is first
pub data Ties : Type 0 where
  ByKey : Ties
  ByOpening : (LotKey → ℕ) → Ties

-- how an edition decides ties between lots that have these opening numbers
abbrev pub ties_by : Edition → (LotKey → ℕ) → Ties
ties_by First opening = ByKey
ties_by Second opening = ByOpening opening

-- the orders of the methods, by how ties are decided
abbrev pub oldest_by : Ties → LotKey → LotKey → Bool
oldest_by ByKey = oldest_first
oldest_by (ByOpening opening) = by_opening oldest_opened_cmp opening

abbrev pub newest_by : Ties → LotKey → LotKey → Bool
newest_by ByKey = newest_first
newest_by (ByOpening opening) = by_opening newest_opened_cmp opening

abbrev pub highest_by : Ties → LotKey → LotKey → Bool
highest_by ByKey = highest_first
highest_by (ByOpening opening) = by_opening highest_opened_cmp opening

-- in which order a method takes lots and lists legs; STRICT lists them in the order of their keys, however ties are decided
abbrev pub order_by : Ties → Method → LotKey → LotKey → Bool
order_by ties Strict = oldest_first
order_by ties Fifo = oldest_by ties
order_by ties Lifo = newest_by ties
order_by ties Hifo = highest_by ties
order_by ties Unmatched = oldest_first

-- which choices a method allows
abbrev pub rule_by : Ties → Method → Rule
rule_by ties Strict = OneOrWhole
rule_by ties Fifo = InTurn (oldest_by ties)
rule_by ties Lifo = InTurn (newest_by ties)
rule_by ties Hifo = InTurn (highest_by ties)
rule_by ties Unmatched = λ lots choice. ⊥

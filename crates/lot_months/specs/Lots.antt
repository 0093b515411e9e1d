-- What lots hold at the end of each month, and what went into them in each (docs/FORMATS.md, Page).
use Rattle.std.specs.Prelude.{◌≡◌, ◌<◌, ◌&&◌, ℕ, ℤ, pos, ◌+ℤ◌, ◌*ℤ◌, Bool, false, List, filter, map, Option, None, Some, FitsSigned}
use Rattle.std.specs.BTreeMap.{BTreeMap, get}
use Rattle.std.specs.Int.{w128}
use Rattle.std.specs.Option.{unwrap_or}
use Rattle.std.specs.Ordering.{nat_cmp, ordering_then}
use Rattle.std.specs.declared.cmp.Ordering.{Ordering}
use Rattle.lot_base.specs.Text.{same_text, text_cmp}
use Rattle.lot_cost.specs.declared.lot_key.LotKey.{LotKey}
use Rattle.lot_legs.specs.declared.leg.DatedLeg.{DatedLeg}
use Rattle.lot_num.specs.Amount.{IsWide}
use Rattle.lot_num.specs.Sum.{sum_of}
use Rattle.lot_months.specs.Range.{counts_at, falls_in}
use Rattle.lot_months.specs.declared.flows.Flow.{Flow}
use Rattle.lot_months.specs.declared.flows.MonthFlows.{MonthFlows}
use Rattle.lot_months.specs.declared.range.MonthRange.{MonthRange}

-- a commodity, and the currency in which its lots cost something
abbrev pub Pair : Type 0
Pair = List ℕ × List ℕ

-- ---- legs at lots

-- whether a leg is at a lot that cost something in a currency, and whether it is at one of a commodity
abbrev pub is_lot_in : List ℕ → Option LotKey → Bool
is_lot_in currency None = false
is_lot_in currency (Some lot) = same_text currency lot.currency

abbrev pub is_of : Pair → DatedLeg → Bool
is_of pair leg = same_text pair.0 leg.commodity && is_lot_in pair.1 leg.lot

-- what units of a lot cost; plain units cost nothing
abbrev pub cost_of : Option LotKey → ℤ → ℤ
cost_of None units = pos 0
cost_of (Some lot) units = units *ℤ pos lot.number

-- ---- sums

-- the units that legs come to, and what they cost
abbrev pub flow_of : List DatedLeg → Flow
flow_of legs = record {
  units = sum_of (map (λ (leg : DatedLeg). leg.units) legs);
  cost = sum_of (map (λ (leg : DatedLeg). cost_of leg.lot leg.units) legs);
}

abbrev pub no_flow : Flow
no_flow = record { units = pos 0; cost = pos 0 }

abbrev pub plus_flow : Flow → Flow → Flow
plus_flow a b = record { units = a.units +ℤ b.units; cost = a.cost +ℤ b.cost }

-- sums that can be kept
abbrev pub IsFlow : Flow → Type 0
IsFlow flow = FitsSigned w128 flow.units × IsWide flow.cost

-- what lots of a pair hold at the end of a month, and what went into them in it
abbrev pub held_at : MonthRange → List DatedLeg → Pair → ℕ → Flow
held_at range legs pair at = flow_of (filter (λ (leg : DatedLeg). is_of pair leg && counts_at range at leg.day) legs)

abbrev pub moved_in : MonthRange → List DatedLeg → Pair → ℕ → Flow
moved_in range legs pair at = flow_of (filter (λ (leg : DatedLeg). is_of pair leg && falls_in range at leg.day) legs)

-- ---- what is kept

abbrev pub pair_cmp : Pair → Pair → Ordering
pair_cmp a b = ordering_then (text_cmp a.0 b.0) (text_cmp a.1 b.1)

-- what went in in a month: nothing where nothing is kept
abbrev pub month_flow : BTreeMap ℕ Flow → ℕ → Flow
month_flow months at = unwrap_or (get nat_cmp months at) no_flow

abbrev pub flow_in : Option (BTreeMap ℕ Flow) → ℕ → Flow
flow_in None at = no_flow
flow_in (Some months) at = month_flow months at

abbrev pub flow_kept : BTreeMap Pair (BTreeMap ℕ Flow) → Pair → ℕ → Flow
flow_kept pairs pair at = flow_in (get pair_cmp pairs pair) at

-- what went into the lots of these legs in each month is kept
pub record HasFlows (range : MonthRange) (legs : List DatedLeg) (flows : MonthFlows) : Type 0 where
  pub range_is : flows.range ≡ range
  pub each : (pair : Pair) (at : ℕ) → flow_kept flows.pairs pair at ≡ moved_in range legs pair at

-- what went into lots of some pair in a month is too much to be kept
abbrev pub HasTooMuch : MonthRange → List DatedLeg → Type 0
HasTooMuch range legs = (pair : Pair) × (at : ℕ) × ¬ IsFlow (moved_in range legs pair at)

-- what lots of some pair hold at the end of a month is
abbrev pub HoldsTooMuch : MonthRange → List DatedLeg → Type 0
HoldsTooMuch range legs = (pair : Pair) × (at : ℕ) × (at < range.count) × ¬ IsFlow (held_at range legs pair at)

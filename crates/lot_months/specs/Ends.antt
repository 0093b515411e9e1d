-- What a pair comes to at the end of each month, told by what went in and by the prices of each month.
use Rattle.std.specs.Prelude.{◌≡◌, ◌⊎◌, ◌<◌, ◌&&◌, ◌==◌, ℕ, zero, suc, ℤ, pos, ◌+ℤ◌, ◌*ℤ◌, nat_abs, Bool, true, not, if◌then◌else◌, List, [], ◌∷◌, map, zip, Option, None, Some, option_map}
use Rattle.std.specs.BTreeMap.{BTreeMap, get}
use Rattle.std.specs.List.{list_any, range_with_len}
use Rattle.std.specs.Ordering.{is_eq}
use Rattle.std.specs.declared.alloc.Global.{Global}
use Rattle.std.specs.declared.vec.Vec.{Vec}
use Rattle.lot_base.specs.Text.{text_cmp}
use Rattle.lot_num.specs.Amount.{IsWide}
use Rattle.lot_plot.specs.declared.lines.MonthPoint.{MonthPoint}
use Rattle.lot_months.specs.Lots.{IsFlow, Pair, month_flow, no_flow, plus_flow}
use Rattle.lot_months.specs.Prices.{rate_in}
use Rattle.lot_months.specs.declared.flows.Flow.{Flow}
use Rattle.lot_months.specs.declared.series.MonthEnd.{MonthEnd}

-- ---- points

-- units are worth their price; none are worth nothing, also without one
abbrev pub worth_of : ℤ → Option ℕ → Option ℤ
worth_of units price = if nat_abs units == 0 then Some (pos 0) else option_map (λ (rate : ℕ). units *ℤ pos rate) price

-- a sum is known where each of its parts is
abbrev pub plus : Option ℤ → Option ℤ → Option ℤ
plus None other = None
plus (Some amount) None = None
plus (Some amount) (Some other) = Some (amount +ℤ other)

-- what is held comes to, and what no lot does
abbrev pub point_of : Flow → Option ℕ → MonthPoint
point_of held price = record { worth = worth_of held.units price; cost = held.cost }

abbrev pub no_point : MonthPoint
no_point = record { worth = Some (pos 0); cost = pos 0 }

abbrev pub plus_point : MonthPoint → MonthPoint → MonthPoint
plus_point a b = record { worth = plus a.worth b.worth; cost = a.cost +ℤ b.cost }

-- what can be kept: a cost, and a worth, where that is known
abbrev pub IsWorth : Option ℤ → Type 0
IsWorth None = Unit {0}
IsWorth (Some amount) = IsWide amount

abbrev pub IsPoint : MonthPoint → Type 0
IsPoint point = IsWorth point.worth × IsWide point.cost

-- whether there are units, or some cost
abbrev pub is_some_flow : Flow → Bool
is_some_flow flow = not ((nat_abs flow.units == 0) && (nat_abs flow.cost == 0))

-- ---- ends of months

abbrev pub Months : Type 0
Months = BTreeMap ℕ Flow

abbrev pub Rates : Type 0
Rates = BTreeMap ℕ ℕ

abbrev pub or_before : Option ℕ → Option ℕ → Option ℕ
or_before None before = before
or_before (Some rate) before = Some rate

abbrev pub end_with : Flow → Option ℕ → MonthEnd
end_with held price = record { held = held; price = price }

abbrev pub no_end : MonthEnd
no_end = end_with no_flow None

-- the end of a month, by that of the month before
abbrev pub next_end : Months → Option Rates → MonthEnd → ℕ → MonthEnd
next_end months rates before at = record {
  held = plus_flow before.held (month_flow months at);
  price = or_before (rate_in rates at) before.price;
}

-- the begin of a month, and its end
abbrev pub begin_of : Months → Option Rates → ℕ → MonthEnd
begin_of months rates zero = no_end
begin_of months rates (suc at) = next_end months rates (begin_of months rates at) at

abbrev pub end_of : Months → Option Rates → ℕ → MonthEnd
end_of months rates at = begin_of months rates (suc at)

abbrev pub ends_of : Months → Option Rates → ℕ → List MonthEnd
ends_of months rates count = map (end_of months rates) (range_with_len 0 count)

abbrev pub is_ever_held : List MonthEnd → Bool
is_ever_held ends = list_any (λ (end : MonthEnd). is_some_flow end.held) ends

-- ---- sums of points

abbrev pub end_point : MonthEnd → MonthPoint
end_point end = point_of end.held end.price

abbrev pub points_with : List MonthPoint → List MonthEnd → List MonthPoint
points_with points ends = map (λ (p : MonthPoint × MonthEnd). plus_point p.0 (end_point p.1)) (zip points ends)

abbrev pub no_points : ℕ → List MonthPoint
no_points count = map (λ (at : ℕ). no_point) (range_with_len 0 count)

-- points with what a pair holds at the end of each month: those of no lots before, where there are none
abbrev pub points_after : ℕ → Option (List MonthPoint) → List MonthEnd → List MonthPoint
points_after count None ends = points_with (no_points count) ends
points_after count (Some points) ends = points_with points ends

-- ---- the points of each currency

abbrev pub Points : Type 0
Points = BTreeMap (List ℕ) (Vec MonthPoint Global)

abbrev pub items_of : Option (Vec MonthPoint Global) → Option (List MonthPoint)
items_of None = None
items_of (Some points) = Some points.items

abbrev pub points_in : Points → List ℕ → Option (List MonthPoint)
points_in points currency = items_of (get text_cmp points currency)

-- each currency with its points, in their order
abbrev pub points_kept : Points → List (List ℕ × List MonthPoint)
points_kept points = map (λ (e : List ℕ × Vec MonthPoint Global). (e.0, e.1.items)) points.entries

-- the points of the pair's currency with its own, where it is ever held, and those of the others as before
abbrev pub after_pair : ℕ → Pair → List MonthEnd → List ℕ → Option (List MonthPoint) → Option (List MonthPoint)
after_pair count pair ends currency before =
    if is_eq (text_cmp pair.1 currency) && is_ever_held ends then Some (points_after count before ends) else before

abbrev pub PointsKept : ℕ → Pair → List MonthEnd → Points → Points → Type 0
PointsKept count pair ends old new = (currency : List ℕ) → points_in new currency ≡ after_pair count pair ends currency (points_in old currency)

-- ---- sums that leave their range

-- what is held at the end of some month can't be kept
abbrev pub HeldLeavesRange : Months → Option Rates → ℕ → Type 0
HeldLeavesRange months rates count = (at : ℕ) × (at < count) × ¬ IsFlow (end_of months rates at).held

-- what is added to a point can't be kept, or the sum can't
abbrev pub PointLeavesRange : MonthPoint → MonthPoint → Type 0
PointLeavesRange point more = (¬ IsPoint more) ⊎ (¬ IsPoint (plus_point point more))

-- that is so at the end of some month
abbrev pub PointsLeaveRange : List MonthPoint → List MonthEnd → Type 0
PointsLeaveRange [] ends = ⊥
PointsLeaveRange (point ∷ points) [] = ⊥
PointsLeaveRange (point ∷ points) (end ∷ ends) = PointLeavesRange point (end_point end) ⊎ PointsLeaveRange points ends

abbrev pub SumsLeaveRange : ℕ → Option (List MonthPoint) → List MonthEnd → Type 0
SumsLeaveRange count None ends = PointsLeaveRange (no_points count) ends
SumsLeaveRange count (Some points) ends = PointsLeaveRange points ends

-- what a pair holds can't be kept, or what it comes to with the points of its currency
abbrev pub PairLeavesRange : ℕ → Pair → Months → Option Rates → Points → Type 0
PairLeavesRange count pair months rates points =
    HeldLeavesRange months rates count
    ⊎ ((is_ever_held (ends_of months rates count) ≡ true) × SumsLeaveRange count (points_in points pair.1) (ends_of months rates count))

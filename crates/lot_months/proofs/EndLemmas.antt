-- The end of a month is what is held by then, and the last price.
use Rattle.std.specs.Prelude.{◌≡◌, ◌<◌, ◌≤◌, ◌+◌, ◌||◌, ℕ, zero, suc, Bool, true, false, List, [], ◌∷◌, map, zip, Option, None, Some}
use Rattle.std.specs.List.{list_any, range_with_len}
use Rattle.std.proofs.Common.{arith, inl, inr, refl, sym, ap, ◌∙◌}
use Rattle.std.proofs.lemmas.Bool.{cases_order, true≢false}
use Rattle.lot_book.proofs.CaseLemmas.{by_bool}
use Rattle.lot_legs.specs.declared.leg.DatedLeg.{DatedLeg}
use Rattle.lot_plot.specs.declared.lines.MonthPoint.{MonthPoint}
use Rattle.lot_rows.specs.declared.price.PriceRow.{PriceRow}
use Rattle.lot_months.specs.Ends.{Months, PointLeavesRange, PointsLeaveRange, Rates, begin_of, end_of, end_point, ends_of, is_ever_held, is_some_flow, no_end, or_before, plus_point, points_with}
use Rattle.lot_months.specs.Lots.{Pair, held_at, month_flow, moved_in, no_flow, plus_flow}
use Rattle.lot_months.specs.Prices.{AreInDayOrder, price_at, price_in, rate_in}
use Rattle.lot_months.specs.declared.range.MonthRange.{MonthRange}
use Rattle.lot_months.specs.declared.series.MonthEnd.{MonthEnd}
use Rattle.lot_months.proofs.FlowLemmas.{held_first, held_next}
use Rattle.lot_months.proofs.PriceLemmas.{price_first, price_next}

abbrev pub end_at : MonthRange → List DatedLeg → List PriceRow → Pair → ℕ → MonthEnd
end_at range legs quotes pair at = record { held = held_at range legs pair at; price = price_at range quotes pair at }

pub end_is : (range : MonthRange) (legs : List DatedLeg) (quotes : List PriceRow) (pair : Pair) (months : Months) (rates : Option Rates)
    → AreInDayOrder quotes → ((at : ℕ) → month_flow months at ≡ moved_in range legs pair at) → ((at : ℕ) → rate_in rates at ≡ price_in range quotes pair at)
    → (at : ℕ) → end_of months rates at ≡ end_at range legs quotes pair at
end_is range legs quotes pair months rates order flows prices zero =
    λ i. record {
      held = (ap (plus_flow no_flow) (flows 0) ∙ sym (held_first range legs pair)) i;
      price = (ap (λ o. or_before o None) (prices 0) ∙ sym (price_first range quotes pair)) i;
    }
end_is range legs quotes pair months rates order flows prices (suc at) =
    let before = end_is range legs quotes pair months rates order flows prices at in
    let flow : plus_flow (end_of months rates at).held (month_flow months (suc at)) ≡ held_at range legs pair (suc at) =
    (λ i. plus_flow (before i).held (flows (suc at) i)) ∙ sym (held_next range legs pair at) in
    let price : or_before (rate_in rates (suc at)) (end_of months rates at).price ≡ price_at range quotes pair (suc at) =
    (λ i. or_before (prices (suc at) i) (before i).price) ∙ sym (price_next range quotes pair at order) in
    λ i. record { held = flow i; price = price i }

-- ---- some and all of the months

-- what holds of one of the months
pub some_of : {X : Type 0} (test : X → Bool) (of : ℕ → X) (first count : ℕ) → list_any test (map of (range_with_len first count)) ≡ true
    → (at : ℕ) × (first ≤ at) × (at < first + count) × (test (of at) ≡ true)
some_of test of first zero is = absurd (true≢false (sym is))
some_of {X} test of first (suc count) is =
    by_bool (test (of first))
    (λ own. (first, omega arith, omega arith, own))
    (λ not.
    let rest : list_any test (map of (range_with_len (first + 1) count)) ≡ true =
    ap (λ b. b || list_any test (map of (range_with_len (first + 1) count))) (sym not) ∙ is in
    let later = some_of test of (first + 1) count rest in
    (later.0, omega (arith, later.1), omega (arith, later.2), later.3))

or_true : (a : Bool) → (a || true) ≡ true
or_true true = refl
or_true false = refl

pub any_of : {X : Type 0} (test : X → Bool) (of : ℕ → X) (at first count : ℕ) → first ≤ at → at < first + count → test (of at) ≡ true
    → list_any test (map of (range_with_len first count)) ≡ true
any_of test of at first zero least below is = absurd (omega (arith, least, below))
any_of {X} test of at first (suc count) least below is = elim (cases_order first at) [
  | inl same ↦
      ap (λ b. b || list_any test (map of (range_with_len (first + 1) count))) (ap (λ n. test (of n)) same ∙ is)
  | inr (inl less) ↦
      ap (λ b. test (of first) || b) (any_of test of at (first + 1) count (omega (arith, less)) (omega (arith, below)) is)
      ∙ or_true (test (of first))
  | inr (inr more) ↦ absurd (omega (arith, least, more))
]

-- what leaves its range does so at one of the months
pub one_leaves : (points : ℕ → MonthPoint) (ends : ℕ → MonthEnd) (first count : ℕ)
    → PointsLeaveRange (map points (range_with_len first count)) (map ends (range_with_len first count))
    → (at : ℕ) × (at < first + count) × PointLeavesRange (points at) (end_point (ends at))
one_leaves points ends first zero leaves = absurd leaves
one_leaves points ends first (suc count) (inl own) = (first, omega arith, own)
one_leaves points ends first (suc count) (inr later) =
    let rest = one_leaves points ends (first + 1) count later in
    (rest.0, omega (arith, rest.1), rest.2)

-- points with the ends of the same months
pub with_ends : (points : ℕ → MonthPoint) (ends : ℕ → MonthEnd) (ats : List ℕ)
    → points_with (map points ats) (map ends ats) ≡ map (λ (at : ℕ). plus_point (points at) (end_point (ends at))) ats
with_ends points ends [] = refl
with_ends points ends (at ∷ ats) =
    ap (λ (rest : List MonthPoint). plus_point (points at) (end_point (ends at)) ∷ rest) (with_ends points ends ats)

-- What the lots of a book come to at the end of each month, in each currency (docs/FORMATS.md, Page).
use Rattle.std.specs.Prelude.{◌≡◌, ◌≢◌, ◌⊎◌, ◌<◌, ◌&&◌, ℕ, ◌+◌, ℤ, true, List, [], ◌∷◌, ◌++◌, filter, length, map, None}
use Rattle.std.specs.List.{fold, list_any}
use Rattle.std.specs.List.Sorted.{IsStrictlySortedBy}
use Rattle.std.specs.Map.{keys_of, lookup}
use Rattle.lot_base.specs.Text.{same_text, text_cmp}
use Rattle.lot_legs.specs.declared.leg.DatedLeg.{DatedLeg}
use Rattle.lot_num.specs.Sum.{sum_of}
use Rattle.lot_plot.specs.declared.lines.MonthPoint.{MonthPoint}
use Rattle.lot_rows.specs.declared.price.PriceRow.{PriceRow}
use Rattle.lot_months.specs.Ends.{IsPoint, is_some_flow, no_point, plus_point, point_of}
use Rattle.lot_months.specs.Lots.{HoldsTooMuch, cost_of, held_at, is_lot_in}
use Rattle.lot_months.specs.Prices.{price_at}
use Rattle.lot_months.specs.Range.{counts_at}
use Rattle.lot_months.specs.declared.range.MonthRange.{MonthRange}
use Rattle.lot_months.specs.declared.series.CurrencyMonths.{CurrencyMonths}

-- the currency and the points of a series
abbrev pub shown : CurrencyMonths → List ℕ × List MonthPoint
shown months = (months.currency, months.points.items)

module _ (range : MonthRange) where
  -- what a commodity comes to at the end of a month, and what some come to
  abbrev pub part_at : List DatedLeg → List PriceRow → List ℕ → ℕ → List ℕ → MonthPoint
  part_at legs quotes currency at base = point_of (held_at range legs (base, currency) at) (price_at range quotes (base, currency) at)

  abbrev pub point_at : List DatedLeg → List PriceRow → List (List ℕ) → List ℕ → ℕ → MonthPoint
  point_at legs quotes bases currency at = fold plus_point no_point (map (part_at legs quotes currency at) bases)

  -- what all lots of a currency cost at the end of a month
  abbrev pub cost_at : List DatedLeg → List ℕ → ℕ → ℤ
  cost_at legs currency at =
      sum_of
      (map (λ (leg : DatedLeg). cost_of leg.lot leg.units)
      (filter (λ (leg : DatedLeg). is_lot_in currency leg.lot && counts_at range at leg.day) legs))

  -- the points of so many months, from a place on
  abbrev pub ArePoints : List DatedLeg → List PriceRow → List (List ℕ) → List ℕ → ℕ → List MonthPoint → Type 0
  ArePoints legs quotes bases currency at [] = Unit {0}
  ArePoints legs quotes bases currency at (point ∷ points) =
      (point ≡ point_at legs quotes bases currency at) × ArePoints legs quotes bases currency (at + 1) points

  -- a commodity has units or a cost in a currency at the end of some month
  abbrev pub IsHeld : List DatedLeg → List ℕ → List ℕ → Type 0
  IsHeld legs currency base = (at : ℕ) × (at < range.count) × (is_some_flow (held_at range legs (base, currency) at) ≡ true)

  -- each commodity that has some is among these, once; others have nothing at the end of any month, and add nothing
  pub record AreBases (legs : List DatedLeg) (currency : List ℕ) (bases : List (List ℕ)) : Type 0 where
    pub in_order : IsStrictlySortedBy text_cmp bases
    pub all : (base : List ℕ) → IsHeld legs currency base → list_any (same_text base) bases ≡ true

  -- a currency is looked at where some commodity has units or a cost in it
  abbrev pub IsHeldIn : List DatedLeg → List ℕ → Type 0
  IsHeldIn legs currency = (base : List ℕ) × IsHeld legs currency base

  pub record AreOf (legs : List DatedLeg) (quotes : List PriceRow) (currency : List ℕ) (points : List MonthPoint) : Type 0 where
    pub held : IsHeldIn legs currency
    pub as_many : length points ≡ range.count
    pub bases : List (List ℕ)
    pub are_bases : AreBases legs currency bases
    pub points_are : ArePoints legs quotes bases currency 0 points

  -- the points of each such currency, in the order of their bytes
  abbrev pub AreEach : List DatedLeg → List PriceRow → List (List ℕ × List MonthPoint) → Type 0
  AreEach legs quotes [] = Unit {0}
  AreEach legs quotes (months ∷ rest) = AreOf legs quotes months.0 months.1 × AreEach legs quotes rest

  pub record AreSeries (legs : List DatedLeg) (quotes : List PriceRow) (months : List (List ℕ × List MonthPoint)) : Type 0 where
    pub in_order : IsStrictlySortedBy text_cmp (keys_of months)
    pub each : AreEach legs quotes months
    pub all : (currency : List ℕ) → IsHeldIn legs currency → lookup (same_text currency) months ≢ None

  -- ---- sums that leave their range

  -- at the end of some month what a commodity comes to can't be kept, or what it and those before it in the order of their bytes do
  pub record ComesToTooMuch (legs : List DatedLeg) (quotes : List PriceRow) : Type 0 where
    pub currency : List ℕ
    pub bases : List (List ℕ)
    pub are_bases : AreBases legs currency bases
    pub before : List (List ℕ)
    pub base : List ℕ
    pub behind : List (List ℕ)
    pub split : bases ≡ before ++ base ∷ behind
    pub at : ℕ
    pub is_month : at < range.count
    pub out : (¬ IsPoint (part_at legs quotes currency at base)) ⊎ (¬ IsPoint (point_at legs quotes (before ++ base ∷ []) currency at))

  -- what the lots of some pair hold, or what those in a currency come to
  abbrev pub SeriesLeaveRange : List DatedLeg → List PriceRow → Type 0
  SeriesLeaveRange legs quotes = HoldsTooMuch range legs ⊎ ComesToTooMuch legs quotes

-- ---- laws

-- what the commodities of a currency cost adds up to what all its lots cost
abbrev pub CostsAddUp : Type 0
CostsAddUp =
    (range : MonthRange) (legs : List DatedLeg) (quotes : List PriceRow) (currency : List ℕ) (bases : List (List ℕ)) (at : ℕ)
    → at < range.count → AreBases range legs currency bases → (point_at range legs quotes bases currency at).cost ≡ cost_at range legs currency at

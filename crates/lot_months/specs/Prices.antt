-- The last price of each pair at the end of each month, and in it (docs/FORMATS.md, Page).
use Rattle.std.specs.Prelude.{◌≡◌, ◌≤ℤ◌, ◌&&◌, ℕ, Bool, true, List, [], ◌∷◌, filter, Option, None, Some}
use Rattle.std.specs.BTreeMap.{BTreeMap, get}
use Rattle.std.specs.List.{AllByRecursion}
use Rattle.std.specs.Ordering.{nat_cmp}
use Rattle.lot_base.specs.Text.{same_text}
use Rattle.lot_rows.specs.declared.price.PriceRow.{PriceRow}
use Rattle.lot_months.specs.Lots.{Pair, pair_cmp}
use Rattle.lot_months.specs.Range.{counts_at, falls_in}
use Rattle.lot_months.specs.declared.prices.MonthPrices.{MonthPrices}
use Rattle.lot_months.specs.declared.range.MonthRange.{MonthRange}

-- whether a price is one of a pair
abbrev pub is_price_of : Pair → PriceRow → Bool
is_price_of pair row = same_text pair.0 row.base && same_text pair.1 row.quote

-- the rate of the last of some prices, or another where there is none
abbrev pub last_rate : Option ℕ → List PriceRow → Option ℕ
last_rate rate [] = rate
last_rate rate (row ∷ rows) = last_rate (Some row.rate) rows

-- the last price of a pair by the end of a month, and the last one in it
abbrev pub price_at : MonthRange → List PriceRow → Pair → ℕ → Option ℕ
price_at range quotes pair at =
    last_rate None (filter (λ (row : PriceRow). is_price_of pair row && counts_at range at row.day) quotes)

abbrev pub price_in : MonthRange → List PriceRow → Pair → ℕ → Option ℕ
price_in range quotes pair at =
    last_rate None (filter (λ (row : PriceRow). is_price_of pair row && falls_in range at row.day) quotes)

-- the prices of each pair lie in the order of their days
abbrev pub AreInDayOrder : List PriceRow → Type 0
AreInDayOrder [] = Unit {0}
AreInDayOrder (row ∷ rows) =
    AllByRecursion (λ (later : PriceRow). is_price_of (row.base, row.quote) later ≡ true → row.day ≤ℤ later.day) rows
    × AreInDayOrder rows

-- ---- what is kept

abbrev pub rate_in : Option (BTreeMap ℕ ℕ) → ℕ → Option ℕ
rate_in None at = None
rate_in (Some rates) at = get nat_cmp rates at

abbrev pub rate_kept : BTreeMap Pair (BTreeMap ℕ ℕ) → Pair → ℕ → Option ℕ
rate_kept pairs pair at = rate_in (get pair_cmp pairs pair) at

-- the last of these prices in each month is kept
pub record HasPrices (range : MonthRange) (quotes : List PriceRow) (prices : MonthPrices) : Type 0 where
  pub range_is : prices.range ≡ range
  pub each : (pair : Pair) (at : ℕ) → rate_kept prices.pairs pair at ≡ price_in range quotes pair at

-- Prices, one after another: the last one by the end of a month is the last one in it, or that of the month before.
use Rattle.std.specs.Prelude.{◌≡◌, ◌≤ℤ◌, ◌&&◌, ◌||◌, ℕ, zero, suc, ℤ, Bool, true, false, cond, List, [], ◌∷◌, ◌++◌, filter, Option, None, Some}
use Rattle.std.specs.BTreeMap.{BTreeMap, get, is_at as is_found}
use Rattle.std.specs.List.{AllByRecursion}
use Rattle.std.specs.Map.{lookup}
use Rattle.std.specs.Ordering.{is_eq, nat_cmp}
use Rattle.std.proofs.Common.{refl, sym, ap, subst, ◌∙◌}
use Rattle.std.proofs.lemmas.Bool.{true≢false}
use Rattle.lot_base.specs.Text.{same_text}
use Rattle.lot_base.proofs.TextLemmas.{one_text}
use Rattle.lot_book.proofs.CaseLemmas.{by_bool}
use Rattle.lot_rows.specs.declared.price.PriceRow.{PriceRow}
use Rattle.lot_months.specs.Ends.{or_before}
use Rattle.lot_months.specs.Lots.{Pair, pair_cmp}
use Rattle.lot_months.specs.Prices.{AreInDayOrder, HasPrices, is_price_of, last_rate, price_at, price_in, rate_in, rate_kept}
use Rattle.lot_months.specs.Range.{counts_at, falls_in, is_at, is_by, place_in}
use Rattle.lot_months.specs.declared.prices.MonthPrices.{MonthPrices}
use Rattle.lot_months.specs.declared.range.MonthRange.{MonthRange}
use Rattle.lot_months.proofs.FlowLemmas.{SetsPair, day_parts, first_place}
use Rattle.lot_months.proofs.OrderLemmas.{counts_before}
use Rattle.lot_months.proofs.PairLemmas.{and_false, both, one_pair, pair_tells, place_tells}
use Rattle.lot_months.proofs.SumLemmas.{Parts, all_of_each, all_weaker, filter_push, filter_same}

abbrev pub Rates : Type 0
Rates = BTreeMap ℕ ℕ

abbrev pub PairRates : Type 0
PairRates = BTreeMap Pair Rates

-- ---- one price more

last_push : (rate : Option ℕ) (rows : List PriceRow) (row : PriceRow) → last_rate rate (rows ++ row ∷ []) ≡ Some row.rate
last_push rate [] row = refl
last_push rate (first ∷ rows) row = last_push (Some first.rate) rows row

abbrev is_told : MonthRange → Pair → ℕ → PriceRow → Bool
is_told range pair at row = is_price_of pair row && falls_in range at row.day

price_push : (range : MonthRange) (quotes : List PriceRow) (row : PriceRow) (pair : Pair) (at : ℕ)
    → price_in range (quotes ++ row ∷ []) pair at ≡ cond (is_told range pair at row) (Some row.rate) (price_in range quotes pair at)
price_push range quotes row pair at =
    ap (last_rate None) (filter_push (is_told range pair at) quotes row) ∙ by (is_told range pair at row)
  where
    by : (b : Bool)
        → last_rate None (cond b (filter (is_told range pair at) quotes ++ row ∷ []) (filter (is_told range pair at) quotes))
        ≡ cond b (Some row.rate) (price_in range quotes pair at)
    by true = last_push None (filter (is_told range pair at) quotes) row
    by false = refl

-- ---- what is kept

-- the rate of one month of one pair is another
abbrev pub SetsRate : PairRates → PairRates → Pair → ℕ → ℕ → Type 0
SetsRate old new pair at rate = (other : Pair) (place : ℕ) → rate_kept new other place
    ≡ cond (is_eq (pair_cmp pair other) && is_eq (nat_cmp at place)) (Some rate) (rate_kept old other place)

pub no_rates : (range : MonthRange) (prices : MonthPrices) → prices.range ≡ range → prices.pairs.entries ≡ [] → HasPrices range [] prices
no_rates range prices of empty = record {
  range_is = of;
  each = λ pair at. ap (λ es. rate_in (lookup (is_found (pair_cmp pair)) es) at) empty;
}

pub rates_more : (range : MonthRange) (quotes : List PriceRow) (row : PriceRow) (old new : MonthPrices) (at : ℕ)
    → new.range ≡ old.range → place_in old.range row.day ≡ Some at → SetsRate old.pairs new.pairs (row.base, row.quote) at row.rate
    → HasPrices range quotes old → HasPrices range (quotes ++ row ∷ []) new
rates_more range quotes row old new at same falls sets has = record {
  range_is = same ∙ has.range_is;
  each = λ pair place.
      sets pair place
      ∙ (λ i. cond (pair_tells (row.base, row.quote) pair i && place_tells at place i) (Some row.rate) (has.each pair place i))
      ∙ ap (λ o. cond (is_price_of pair row && is_at place o) (Some row.rate) (price_in range quotes pair place))
      (sym falls ∙ ap (λ r. place_in r row.day) has.range_is)
      ∙ sym (price_push range quotes row pair place);
}

pub rates_late : (range : MonthRange) (quotes : List PriceRow) (row : PriceRow) (prices : MonthPrices)
    → place_in prices.range row.day ≡ None → HasPrices range quotes prices → HasPrices range (quotes ++ row ∷ []) prices
rates_late range quotes row prices late has = record {
  range_is = has.range_is;
  each = λ pair at.
      has.each pair at
      ∙ ap (λ b. cond b (Some row.rate) (price_in range quotes pair at))
      (sym (and_false (is_price_of pair row))
      ∙ ap (λ o. is_price_of pair row && is_at at o) (sym late ∙ ap (λ r. place_in r row.day) has.range_is))
      ∙ sym (price_push range quotes row pair at);
}

-- ---- one pair, one month

abbrev pub SetsMonth : Option Rates → Rates → ℕ → ℕ → Type 0
SetsMonth old new at rate = (place : ℕ) → get nat_cmp new place ≡ cond (is_eq (nat_cmp at place)) (Some rate) (rate_in old place)

pub rate_set : (old new : PairRates) (pair : Pair) (at rate : ℕ) (rates : Rates) (before : Option Rates)
    → before ≡ get pair_cmp old pair → SetsMonth before rates at rate → SetsPair old new pair rates → SetsRate old new pair at rate
rate_set old new pair at rate rates before was sets_month sets other place =
    ap (λ o. rate_in o place) (sets other)
    ∙ by_bool (is_eq (pair_cmp pair other))
    (λ is.
    ap (λ b. rate_in (cond b (Some rates) (get pair_cmp old other)) place) is
    ∙ sets_month place
    ∙ ap (λ o. cond (is_eq (nat_cmp at place)) (Some rate) (rate_in o place)) (was ∙ ap (get pair_cmp old) (one_pair pair other is))
    ∙ ap (λ b. cond (b && is_eq (nat_cmp at place)) (Some rate) (rate_kept old other place)) (sym is))
    (λ isnt.
    ap (λ b. rate_in (cond b (Some rates) (get pair_cmp old other)) place) isnt
    ∙ ap (λ b. cond (b && is_eq (nat_cmp at place)) (Some rate) (rate_kept old other place)) (sym isnt))

pub rates_new : (old new : Rates) (at rate : ℕ) → old.entries ≡ []
    → ((place : ℕ) → get nat_cmp new place ≡ cond (is_eq (nat_cmp at place)) (Some rate) (get nat_cmp old place))
    → SetsMonth None new at rate
rates_new old new at rate empty sets place =
    sets place ∙ ap (λ es. cond (is_eq (nat_cmp at place)) (Some rate) (lookup (is_found (nat_cmp place)) es)) empty

-- ---- from the end of a month to that of the next

some_last : (rate : ℕ) (rows : List PriceRow) (other : Option ℕ) → last_rate (Some rate) rows ≡ or_before (last_rate (Some rate) rows) other
some_last rate [] other = refl
some_last rate (row ∷ rows) other = some_last row.rate rows other

part_alone : (whole first second : Bool) → Parts whole first second → first ≡ false → whole ≡ second
part_alone whole first second parts none = parts.0 ∙ ap (λ b. b || second) none

same_pair : (pair : Pair) (row : PriceRow) → is_price_of pair row ≡ true → pair ≡ (row.base, row.quote)
same_pair pair row is =
    let parts = both (same_text pair.0 row.base) (same_text pair.1 row.quote) is in
    λ i. (one_text pair.0 row.base parts.0 i, one_text pair.1 row.quote parts.1 i)

module _ (range : MonthRange) (pair : Pair) (at : ℕ) where
  abbrev by_next : PriceRow → Bool
  by_next row = is_price_of pair row && counts_at range (suc at) row.day

  abbrev by_now : PriceRow → Bool
  by_now row = is_price_of pair row && counts_at range at row.day

  abbrev in_next : PriceRow → Bool
  in_next row = is_told range pair (suc at) row

  row_parts : (row : PriceRow) → Parts (by_next row) (by_now row) (in_next row)
  row_parts row = day_parts range (is_price_of pair row) at (place_in range row.day)

  -- behind a price that counts first in the next month no other of the pair counts before
  later_is : (row later : PriceRow) → is_price_of pair row ≡ true → counts_at range at row.day ≡ false
      → (is_price_of (row.base, row.quote) later ≡ true → row.day ≤ℤ later.day) → by_now later ≡ false
  later_is row later own not follows =
      by_bool (by_now later)
      (λ is.
      let parts = both (is_price_of pair later) (counts_at range at later.day) is in
      let after = follows (ap (λ p. is_price_of p later) (sym (same_pair pair row own)) ∙ parts.0) in
      absurd (true≢false (sym (counts_before range at row.day later.day after parts.1) ∙ not)))
      (λ isnt. isnt)

  rest_is : (row : PriceRow) (rows : List PriceRow) → is_price_of pair row ≡ true → counts_at range at row.day ≡ false
      → AllByRecursion (λ (later : PriceRow). is_price_of (row.base, row.quote) later ≡ true → row.day ≤ℤ later.day) rows
      → filter by_next rows ≡ filter in_next rows
  rest_is row rows own not order =
      filter_same by_next in_next rows
      (all_weaker (λ later follows. part_alone (by_next later) (by_now later) (in_next later) (row_parts later) (later_is row later own not follows)) rows order)

  last_is : (rate : Option ℕ) (rows : List PriceRow) → AreInDayOrder rows
      → last_rate rate (filter by_next rows) ≡ or_before (last_rate None (filter in_next rows)) (last_rate rate (filter by_now rows))
  last_is rate [] order = refl
  last_is rate (row ∷ rows) order =
      by (by_next row) (by_now row) (in_next row) (row_parts row) refl refl (λ r. last_is r rows order.1)
    where
      by : (a b c : Bool) → Parts a b c → by_now row ≡ b → in_next row ≡ c
          → ((r : Option ℕ) → last_rate r (filter by_next rows) ≡ or_before (last_rate None (filter in_next rows)) (last_rate r (filter by_now rows)))
          → last_rate rate (cond a (row ∷ filter by_next rows) (filter by_next rows))
          ≡ or_before (last_rate None (cond c (row ∷ filter in_next rows) (filter in_next rows))) (last_rate rate (cond b (row ∷ filter by_now rows) (filter by_now rows)))
      by true true true parts now next rest = absurd (true≢false parts.1)
      by true true false parts now next rest = rest (Some row.rate)
      by true false true parts now next rest =
          let own = (both (is_price_of pair row) (falls_in range (suc at) row.day) next).0 in
          let not : counts_at range at row.day ≡ false = ap (λ b. b && counts_at range at row.day) (sym own) ∙ now in
          ap (last_rate (Some row.rate)) (rest_is row rows own not order.0)
          ∙ some_last row.rate (filter in_next rows) (last_rate rate (filter by_now rows))
      by true false false parts now next rest = absurd (true≢false parts.0)
      by false true c parts now next rest = absurd (true≢false (sym parts.0))
      by false false true parts now next rest = absurd (true≢false (sym parts.0))
      by false false false parts now next rest = rest rate

pub price_next : (range : MonthRange) (quotes : List PriceRow) (pair : Pair) (at : ℕ) → AreInDayOrder quotes
    → price_at range quotes pair (suc at) ≡ or_before (price_in range quotes pair (suc at)) (price_at range quotes pair at)
price_next range quotes pair at order = last_is range pair at None quotes order

none_before : (price : Option ℕ) → price ≡ or_before price None
none_before None = refl
none_before (Some rate) = refl

pub price_first : (range : MonthRange) (quotes : List PriceRow) (pair : Pair)
    → price_at range quotes pair 0 ≡ or_before (price_in range quotes pair 0) None
price_first range quotes pair =
    ap (last_rate None)
    (filter_same (λ (row : PriceRow). is_price_of pair row && counts_at range 0 row.day) (is_told range pair 0) quotes
    (all_of_each (λ (row : PriceRow). ap (λ b. is_price_of pair row && b) (first_place (place_in range row.day))) quotes))
    ∙ none_before (price_in range quotes pair 0)

-- The prices that the rows of tables give at a day are those of the book that they stand for.
use Rattle.std.specs.Prelude.{◌≡◌, ◌⊎◌, ◌<ℤ◌, ◌≤ℤ◌, ℕ, ℤ, true, false, List, filter, Option, None, Some, int_lt, not}
use Rattle.std.specs.List.{list_any}
use Rattle.std.specs.Option.{option_map}
use Rattle.std.specs.Ordering.{int_cmp, is_eq, ordering_then}
use Rattle.std.specs.declared.cmp.Ordering.{Ordering}
use Rattle.std.specs.declared.cmp.Ordering.TheVariants.{Less, Equal, Greater}
use Rattle.std.proofs.Common.{refl, sym, ap, ◌∙◌, arith, inl, inr}
use Rattle.std.proofs.lemmas.Bool.{cases_Bool, true≢false}
use Rattle.std.proofs.lemmas.Int.{ints}
use Rattle.sqlite.specs.Tree.{IsAscending}
use Rattle.sqlite_keyed.proofs.ListLemmas.{all_map, ascending-filter, ascending-map, ascending_weaker, none_from_any}
use Rattle.sqlite_rules.specs.Lists.{Has}
use Rattle.sqlite_rules.proofs.ListLemmas.{all_from, all_has, has_filtered, has_kept, some_has}
use Rattle.sqlite_value.proofs.OrderLemmas.{then-Equal, value_cmp-Int, value_cmp-Text}
use Rattle.lot_base.specs.Text.{text_cmp}
use Rattle.lot_book.specs.Facts.{Entry}
use Rattle.lot_table.specs.Rows.{key_order}
use Rattle.lot_table.proofs.KeyLemmas.{mapped_has, not_passed}
use Rattle.lot_rows.specs.Price.{price_cells}
use Rattle.lot_rows.specs.Tables.{Tables}
use Rattle.lot_rows.specs.declared.price.PriceRow.{PriceRow}
use Rattle.lot_stored.specs.Kept.{rate_on}
use Rattle.lot_stored.specs.Rows.{price_key, price_row}
use Rattle.lot_stored.specs.StandFor.{StandFor}
use Rattle.lot_stored.proofs.LookupLemmas.{has_own_key, row-only, row-there}
use Rattle.lot_stored.proofs.HeldLemmas.{mapped_some}
use Rattle.lot_walk.specs.Prices.{ArePrices, IsPriceAt, is_by, last_rows, pair_cmp, pair_of, price_of, prices_by, row_pair}
use Rattle.lot_walk.specs.declared.price.PairPrice.{PairPrice}
use Rattle.lot_walk.proofs.LastLemmas.{AreUp, exact_pair, last_rows-all, last_rows-latest, last_rows-of, last_rows-up, own_pair, pairs_total, row_cmp, same_pair}
use Rattle.lot_walk.proofs.LookLemmas.{looked_as, sorted_keys}

-- ---- the order of the rows

then_then : (o p q : Ordering) → ordering_then o (ordering_then p q) ≡ ordering_then (ordering_then o p) q
then_then Less p q = refl
then_then Equal p q = refl
then_then Greater p q = refl

row_order : (a b : PriceRow) → key_order 3 (price_cells a) (price_cells b) ≡ row_cmp a b
row_order a b =
    (λ i. ordering_then (value_cmp-Text a.base b.base i)
    (ordering_then (value_cmp-Text a.quote b.quote i) ((then-Equal _ ∙ value_cmp-Int a.day b.day) i)))
    ∙ then_then (text_cmp a.base b.base) (text_cmp a.quote b.quote) (int_cmp a.day b.day)

pub rows_up : (rows : List PriceRow) → IsAscending (λ a b. key_order 3 (price_cells a) (price_cells b) ≡ Less) rows → AreUp rows
rows_up =
    ascending_weaker (λ a b. key_order 3 (price_cells a) (price_cells b) ≡ Less) (λ a b. row_cmp a b ≡ Less) (λ a b less. sym (row_order a b) ∙ less)

-- ---- days

up_to : (a b : ℤ) → not (int_lt b a) ≡ true → a ≤ℤ b
up_to a b e = let e' : int_lt b a ≡ false = not_passed (int_lt b a) e in grind (arith, ints)

is_up_to : (a b : ℤ) → a ≤ℤ b → not (int_lt b a) ≡ true
is_up_to a b h = let e : int_lt b a ≡ false = grind (arith, ints) in ap not e

not_later : (a b : ℤ) → int_lt a b ≡ false → a <ℤ b → ⊥
not_later a b e h = grind (arith, ints)

-- ---- what the rows say

some_rate : (a b : ℕ) → ◌≡◌ {A = Option ℕ} (Some a) (Some b) → a ≡ b
some_rate a b e = cc

module _ (tables : Tables) (entries : List Entry) (stand : StandFor tables entries) (day : ℤ) where
  abbrev rows : List PriceRow
  rows = filter (is_by day) tables.price

  up : AreUp tables.price
  up = rows_up tables.price stand.ordered.price

  rows-up : AreUp (filter (is_by day) tables.price)
  rows-up = ascending-filter (λ a b. row_cmp a b ≡ Less) (is_by day) tables.price up

  -- a row has the rate that was quoted last on its day
  row_true : (row : PriceRow) → Has tables.price row → rate_on entries row.base row.quote row.day ≡ Some row.rate
  row_true row has =
      let found =
      sym (row-only price_cells 3 (price_key row.base row.quote row.day) tables.price row stand.ordered.price has (has_own_key 3 (price_cells row)))
      ∙ stand.price row.base row.quote row.day in
      let at = mapped_some (price_row row.base row.quote row.day) (rate_on entries row.base row.quote row.day) row found in
      at.1 ∙ ap (λ (r : PriceRow). Some r.rate) (sym at.2)

  row_there : (base quote : List ℕ) (on : ℤ) (rate : ℕ) → rate_on entries base quote on ≡ Some rate → Has tables.price (price_row base quote on rate)
  row_there base quote on rate e =
      (row-there price_cells 3 (price_key base quote on) tables.price (price_row base quote on rate)
      (stand.price base quote on ∙ ap (option_map (price_row base quote on)) e)).0

  price_true : (row : PriceRow) → Has (last_rows (filter (is_by day) tables.price)) row → IsPriceAt entries day (row_pair row) (Some row.rate)
  price_true row has =
      let among = last_rows-of (filter (is_by day) tables.price) row has in
      let there = has_filtered (is_by day) tables.price row among in (
        row.day,
        up_to row.day day there.1,
        row_true row there.0,
        λ later after within. by (rate_on entries row.base row.quote later) later refl after within,
      )
    where
      by : (found : Option ℕ) (later : ℤ) → rate_on entries row.base row.quote later ≡ found → row.day <ℤ later → later ≤ℤ day → found ≡ None
      by None later e after within = refl
      by (Some rate) later e after within =
          let other = price_row row.base row.quote later rate in
          let among : Has (filter (is_by day) tables.price) other =
          has_kept (is_by day) tables.price other (row_there row.base row.quote later rate e) (is_up_to later day within) in
          absurd (not_later row.day later (last_rows-latest (filter (is_by day) tables.price) row other rows-up has among refl) after)

  all_true : (price : PairPrice) → Has (prices_by day tables.price) price → IsPriceAt entries day (pair_of price) (Some price.rate)
  all_true price has =
      all_has (λ (p : PairPrice). IsPriceAt entries day (pair_of p) (Some p.rate)) (prices_by day tables.price) price
      (all_map (λ (p : PairPrice). IsPriceAt entries day (pair_of p) (Some p.rate)) price_of (last_rows (filter (is_by day) tables.price))
      (all_from (λ (row : PriceRow). IsPriceAt entries day (row_pair row) (Some row.rate)) (last_rows (filter (is_by day) tables.price)) price_true)) has

  -- a pair has a row, or no price
  listed : (pair : List ℕ × List ℕ)
      → ((price : PairPrice) × Has (prices_by day tables.price) price × (pair_of price ≡ pair)) ⊎ IsPriceAt entries day pair None
  listed pair =
      elim (cases_Bool (list_any (λ (row : PriceRow). is_eq (pair_cmp pair (row_pair row))) (filter (is_by day) tables.price))) [
        | inl some ↦
            let row = some_has (λ (r : PriceRow). is_eq (pair_cmp pair (row_pair r))) (filter (is_by day) tables.price) some in
            let last = last_rows-all (filter (is_by day) tables.price) row.0 row.1 in
            inl (
              price_of last.0,
              mapped_has price_of (last_rows (filter (is_by day) tables.price)) last.0 last.1,
              last.2 ∙ sym (same_pair pair (row_pair row.0) row.2),
            )
        | inr none ↦ inr (λ on within. by none on (rate_on entries pair.0 pair.1 on) refl within)
      ]
    where
      by : list_any (λ (row : PriceRow). is_eq (pair_cmp pair (row_pair row))) (filter (is_by day) tables.price) ≡ false
          → (on : ℤ) (found : Option ℕ) → rate_on entries pair.0 pair.1 on ≡ found → on ≤ℤ day → found ≡ None
      by none on None e within = refl
      by none on (Some rate) e within =
          let row = price_row pair.0 pair.1 on rate in
          let among : Has (filter (is_by day) tables.price) row =
          has_kept (is_by day) tables.price row (row_there pair.0 pair.1 on rate e) (is_up_to on day within) in
          absurd (true≢false (sym (own_pair pair)
          ∙ all_has (λ (r : PriceRow). is_eq (pair_cmp pair (row_pair r)) ≡ false) (filter (is_by day) tables.price) row
          (none_from_any (λ (r : PriceRow). is_eq (pair_cmp pair (row_pair r))) (filter (is_by day) tables.price) none) among))

  prices_up : IsAscending (λ a b. pair_cmp (pair_of a) (pair_of b) ≡ Less) (prices_by day tables.price)
  prices_up =
      ascending-map (λ (a b : PairPrice). pair_cmp (pair_of a) (pair_of b) ≡ Less) price_of (last_rows (filter (is_by day) tables.price))
      (last_rows-up (filter (is_by day) tables.price) rows-up)

  -- the prices at the day
  pub are_prices : ArePrices entries day (prices_by day tables.price)
  are_prices = record {
    in_order = sorted_keys pair_cmp pairs_total exact_pair pair_of (λ (p : PairPrice). p.rate) (prices_by day tables.price) prices_up;
    each = looked_as pair_cmp pairs_total exact_pair pair_of (λ (p : PairPrice). p.rate) (IsPriceAt entries day) (prices_by day tables.price) prices_up all_true listed;
  }

-- the same, in the order in which a law says it
pub prices_at_day : (tables : Tables) (entries : List Entry) (day : ℤ) → StandFor tables entries → ArePrices entries day (prices_by day tables.price)
prices_at_day tables entries day stand = are_prices tables entries stand day

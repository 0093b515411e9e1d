-- The statements that answer some rows of a table, and the one of the table `migration`.
use Rattle.std.proofs.Common.{Result, Vec, IfSome, slice_get, true, ◌≡◌, ℕ, ℤ, pos, None, All, List, [], ◌∷◌, codes, refl, arith, Option, Some}
use Rattle.std.specs.declared.alloc.Global.{Global}
use Rattle.sqlite.specs.Listing.{understood}
use Rattle.sqlite.specs.State.{State}
use Rattle.sqlite.specs.declared.types.Value.TheVariants.{Int, Text}
use Rattle.sqlite_rules.specs.Steps.{is_typed}
use Rattle.sqlite_tied.specs.Compute.{everything}
use Rattle.lot_cost.specs.declared.lot_key.LotKey.{LotKey}
use Rattle.lot_table.proofs.QueryLemmas.{Asks, IsQuery, finds, keyed, lists_columns}
use Rattle.lot_table.proofs.ReadLemmas.{key_terms}
use Rattle.lot_table.specs.Call.{Finds, ListsColumns, Selects}
use Rattle.lot_table.specs.Rows.{has_key, with_key}
use Rattle.lot_table.specs.declared.fault.Fault.{Fault}
use Rattle.lot_rows.proofs.LegLemmas.{is_table as leg_is, names as leg_names, order as leg_order, shows as leg_shows}
use Rattle.lot_rows.specs.Tables.{layout, leg_table, lot_table, opening_table, price_table}
use Rattle.lot_rows.proofs.PriceLemmas.{same_row as same_price}
use Rattle.lot_rows.specs.Leg.{IsLegRow, leg_cells}
use Rattle.lot_rows.specs.Lot.{IsLotRow, lot_cells}
use Rattle.lot_rows.specs.LotKey.{cost_currency, cost_day, cost_label, cost_number, lot_key}
use Rattle.lot_rows.specs.Price.{IsPriceRow, price_cells}
use Rattle.lot_rows.specs.declared.leg.LegRow.{LegRow}
use Rattle.lot_rows.specs.declared.lot.LotRow.{LotRow}
use Rattle.lot_rows.specs.declared.price.PriceRow.{PriceRow}
use Rattle.sqlite.specs.Order.{Row}
use Rattle.lot_rows.specs.Opening.{IsOpeningRow, opening_cells}
use Rattle.lot_rows.specs.declared.opening.OpeningRow.{OpeningRow}
use Rattle.lot_rows.proofs.LotLemmas.{is_table as lot_is, names as lot_names, order as lot_order, shows as lot_shows}
use Rattle.lot_rows.proofs.OpeningLemmas.{is_table as opening_is, names as opening_names, order as opening_order, shows as opening_shows}
use Rattle.lot_rows.proofs.PriceLemmas.{is_table as price_is, names as price_names, order as price_order, shows as price_shows}

-- ---- price: one pair on one day

abbrev price_text : List ℕ
price_text = codes "SELECT base, quote, day, rate FROM price WHERE base = ?1 AND quote = ?2 AND day = ?3 ORDER BY base, quote, day"

pub price_query : IsQuery layout.schema price_table.table.tree (key_terms 3 0) price_shows price_order price_names 3 price_text
unfolding understood everything
price_query = record { means = refl; unlisted = refl; bare = (refl, refl); whole = (omega arith, refl); selects = (_, refl, refl) }

abbrev price_params : List ℕ → List ℕ → ℤ → Row
price_params base quote day = Text base ∷ Text quote ∷ Int day ∷ []

price_asks : (base quote : List ℕ) (day : ℤ) → Asks layout price_table (price_params base quote day) (has_key 3 (price_params base quote day)) price_text
price_asks base quote day = record {
  tests = key_terms 3 0;
  shows = price_shows;
  order = price_order;
  names = price_names;
  is = price_query;
  picks = record { alike = keyed price_cells 3 (price_params base quote day) (refl, (refl, (refl, tt))) (λ _. (refl, (refl, (refl, tt)))); blind = λ _ _ _. refl; shown = λ _. refl; sorts = λ _ _ _. refl; typed = refl };
}

pub price_row : (old new : State) (base quote : List ℕ) (day : ℤ) (result : Result (Option PriceRow) Fault)
    → Selects price_cells IsPriceRow (λ rows found. found ≡ slice_get rows 0) (λ found. IfSome found IsPriceRow) price_text
    (price_params base quote day) old new result
    → Finds layout IsPriceRow (λ b. with_key price_cells 3 (price_params base quote day) b.price) old new result
price_row old new base quote day =
    finds layout price_table price_is (price_params base quote day) (has_key 3 (price_params base quote day)) price_text
    (price_asks base quote day) old new IsPriceRow (λ b. with_key price_cells 3 (price_params base quote day) b.price)
    (λ _. refl) same_price

-- ---- leg

abbrev leg_text : List ℕ
leg_text = codes "SELECT entry, posting, place, account, commodity, units, cost_number, cost_currency, cost_day, cost_label FROM leg WHERE entry = ?1 ORDER BY entry, posting, place"

pub leg_query : IsQuery layout.schema leg_table.table.tree (key_terms 1 0) leg_shows leg_order leg_names 1 leg_text
unfolding understood everything
leg_query = record { means = refl; unlisted = refl; bare = (refl, refl); whole = (omega arith, refl); selects = (_, refl, refl) }

leg_asks : (entry : ℕ) → Asks layout leg_table (Int (pos entry) ∷ []) (has_key 1 (Int (pos entry) ∷ [])) leg_text
leg_asks entry = record {
  tests = key_terms 1 0;
  shows = leg_shows;
  order = leg_order;
  names = leg_names;
  is = leg_query;
  picks = record { alike = keyed leg_cells 1 (Int (pos entry) ∷ []) (refl, tt) (λ _. (refl, tt)); blind = λ _ _ _. refl; shown = λ _. refl; sorts = λ _ _ _. refl; typed = refl };
}

pub leg_rows : (old new : State) (entry : ℕ) (result : Result (Vec LegRow Global) Fault)
    → Selects leg_cells IsLegRow (λ rows found. found.items ≡ rows) (λ found. All IsLegRow found.items) leg_text
    (Int (pos entry) ∷ []) old new result
    → ListsColumns layout leg_cells IsLegRow (λ b. with_key leg_cells 1 (Int (pos entry) ∷ []) b.leg) old new result
leg_rows old new entry =
    lists_columns layout leg_table leg_is (Int (pos entry) ∷ []) (has_key 1 (Int (pos entry) ∷ [])) leg_text (leg_asks entry)
    old new IsLegRow (λ b. with_key leg_cells 1 (Int (pos entry) ∷ []) b.leg) (λ _. refl)

-- ---- lot: one lot

abbrev lot_at_text : List ℕ
lot_at_text = codes "SELECT account, commodity, cost_day, cost_currency, cost_number, cost_label, units FROM lot WHERE account = ?1 AND commodity = ?2 AND cost_day = ?3 AND cost_currency = ?4 AND cost_number = ?5 AND cost_label = ?6 ORDER BY account, commodity, cost_day, cost_currency, cost_number, cost_label"

pub lot_at_query : IsQuery layout.schema lot_table.table.tree (key_terms 6 0) lot_shows lot_order lot_names 6 lot_at_text
unfolding understood everything
lot_at_query = record { means = refl; unlisted = refl; bare = (refl, refl); whole = (omega arith, refl); selects = (_, refl, refl) }

lot_at_asks : (account commodity : List ℕ) (lot : LotKey)
    → Asks layout lot_table (lot_key account commodity lot) (has_key 6 (lot_key account commodity lot)) lot_at_text
lot_at_asks account commodity lot = record {
  tests = key_terms 6 0;
  shows = lot_shows;
  order = lot_order;
  names = lot_names;
  is = lot_at_query;
  picks = record {
    alike = keyed lot_cells 6 (lot_key account commodity lot) (refl, (refl, (refl, (refl, (refl, (refl, tt))))))
        (λ _. (refl, (refl, (refl, (refl, (refl, (refl, tt)))))));
    blind = λ _ _ _. refl;
    shown = λ _. refl;
    sorts = λ _ _ _. refl;
    typed = refl;
  };
}

pub lot_at_rows : (old new : State) (account commodity : List ℕ) (lot : LotKey) (result : Result (Vec LotRow Global) Fault)
    → Selects lot_cells IsLotRow (λ rows found. found.items ≡ rows) (λ found. All IsLotRow found.items) lot_at_text
    (lot_key account commodity lot) old new result
    → ListsColumns layout lot_cells IsLotRow (λ b. with_key lot_cells 6 (lot_key account commodity lot) b.lot) old new result
lot_at_rows old new account commodity lot =
    lists_columns layout lot_table lot_is (lot_key account commodity lot) (has_key 6 (lot_key account commodity lot)) lot_at_text
    (lot_at_asks account commodity lot) old new IsLotRow (λ b. with_key lot_cells 6 (lot_key account commodity lot) b.lot) (λ _. refl)

-- ---- opening: one lot

abbrev opening_at_text : List ℕ
opening_at_text = codes "SELECT account, commodity, cost_day, cost_currency, cost_number, cost_label, opening FROM opening WHERE account = ?1 AND commodity = ?2 AND cost_day = ?3 AND cost_currency = ?4 AND cost_number = ?5 AND cost_label = ?6 ORDER BY account, commodity, cost_day, cost_currency, cost_number, cost_label"

pub opening_at_query : IsQuery layout.schema opening_table.table.tree (key_terms 6 0) opening_shows opening_order opening_names 6 opening_at_text
unfolding understood everything
opening_at_query = record { means = refl; unlisted = refl; bare = (refl, refl); whole = (omega arith, refl); selects = (_, refl, refl) }

opening_at_asks : (account commodity : List ℕ) (lot : LotKey)
    → Asks layout opening_table (lot_key account commodity lot) (has_key 6 (lot_key account commodity lot)) opening_at_text
opening_at_asks account commodity lot = record {
  tests = key_terms 6 0;
  shows = opening_shows;
  order = opening_order;
  names = opening_names;
  is = opening_at_query;
  picks = record {
    alike = keyed opening_cells 6 (lot_key account commodity lot) (refl, (refl, (refl, (refl, (refl, (refl, tt))))))
        (λ _. (refl, (refl, (refl, (refl, (refl, (refl, tt)))))));
    blind = λ _ _ _. refl;
    shown = λ _. refl;
    sorts = λ _ _ _. refl;
    typed = refl;
  };
}

pub opening_at_rows : (old new : State) (account commodity : List ℕ) (lot : LotKey) (result : Result (Vec OpeningRow Global) Fault)
    → Selects opening_cells IsOpeningRow (λ rows found. found.items ≡ rows) (λ found. All IsOpeningRow found.items) opening_at_text
    (lot_key account commodity lot) old new result
    → ListsColumns layout opening_cells IsOpeningRow (λ b. with_key opening_cells 6 (lot_key account commodity lot) b.opening) old new result
opening_at_rows old new account commodity lot =
    lists_columns layout opening_table opening_is (lot_key account commodity lot) (has_key 6 (lot_key account commodity lot)) opening_at_text
    (opening_at_asks account commodity lot) old new IsOpeningRow (λ b. with_key opening_cells 6 (lot_key account commodity lot) b.opening) (λ _. refl)

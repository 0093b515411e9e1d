-- Tables stand for a book exactly where they agree on it: all tables.
use Rattle.std.specs.Prelude.{◌≡◌, ℕ, pos, true, List, [], ◌∷◌, Option, option_map}
use Rattle.std.specs.List.{AllByRecursion}
use Rattle.std.proofs.Common.{refl}
use Rattle.std.proofs.lemmas.List.Elements.{recursion_from_All}
use Rattle.sqlite.specs.Order.{Row}
use Rattle.sqlite.specs.Values.{or_null}
use Rattle.sqlite.specs.declared.types.Value.TheVariants.{Int, Text}
use Rattle.sqlite_rules.specs.Lists.{Has}
use Rattle.sqlite_rules.proofs.ListLemmas.{all_has}
use Rattle.lot_cost.specs.Method.{word_of}
use Rattle.lot_inv.specs.Inventory.{non_zero}
use Rattle.lot_book.specs.Facts.{Entry, latest_at_cost, legs_of, standing_of}
use Rattle.lot_book.specs.OpeningNumber.{opening_number}
use Rattle.lot_table.specs.Rows.{has_key}
use Rattle.lot_rows.specs.Account.{account_cells}
use Rattle.lot_rows.specs.Commodity.{commodity_cells}
use Rattle.lot_rows.specs.Head.{head_cells}
use Rattle.lot_rows.specs.Leg.{IsLegRow}
use Rattle.lot_rows.specs.Lot.{IsLotRow, lot_cells}
use Rattle.lot_rows.specs.Opening.{IsOpeningRow, opening_cells}
use Rattle.lot_rows.specs.Plain.{plain_cells}
use Rattle.lot_rows.specs.Price.{price_cells}
use Rattle.lot_rows.specs.Tables.{Tables, account_table, commodity_table, head_table, lot_table, opening_table, plain_table, price_table}
use Rattle.lot_rows.specs.declared.account.AccountRow.{AccountRow}
use Rattle.lot_rows.specs.declared.commodity.CommodityRow.{CommodityRow}
use Rattle.lot_rows.specs.declared.head.HeadRow.{HeadRow}
use Rattle.lot_rows.specs.declared.lot.LotRow.{LotRow}
use Rattle.lot_rows.specs.declared.opening.OpeningRow.{OpeningRow}
use Rattle.lot_rows.specs.declared.plain.PlainRow.{PlainRow}
use Rattle.lot_rows.specs.declared.price.PriceRow.{PriceRow}
use Rattle.lot_stored.specs.Kept.{declared_on, rate_on}
use Rattle.lot_stored.specs.Rows.{account_row, commodity_row, head_row, lot_key, lot_row, name_key, opening_row, pair_key, plain_row, price_key, price_row}
use Rattle.lot_stored.specs.StandFor.{StandFor, sum_in}
use Rattle.lot_stored.proofs.LookupLemmas.{has_own_key}
use Rattle.lot_audit.specs.Agree.{AllAgree, LotPlace, PairKey, PriceKey, any_key, is_lot_place, plain_of, position_of}
use Rattle.lot_audit.proofs.AgreeLemmas.{agreed, allowed_agreed, allowed_looked_up, legs_agreed, legs_looked_up, looked_up, one_lot, one_name, one_pair, one_price}

-- ---- the keys of rows

account_one : (k : List ℕ) (x : AccountRow) → any_key k → any_key x.name → has_key 1 (name_key k) (account_cells x) ≡ true → x.name ≡ k
account_one k x p q = one_name k x.name (Int x.opened ∷ or_null Int x.closed ∷ Text (word_of x.method) ∷ [])

commodity_one : (k : List ℕ) (x : CommodityRow) → any_key k → any_key x.name → has_key 1 (name_key k) (commodity_cells x) ≡ true → x.name ≡ k
commodity_one k x p q = one_name k x.name (Int x.day ∷ [])

price_one : (k : PriceKey) (x : PriceRow) → any_key k → any_key {K = PriceKey} (x.base, x.quote, x.day)
    → has_key 3 (price_key k.0 k.1 k.2) (price_cells x) ≡ true → ◌≡◌ {A = PriceKey} (x.base, x.quote, x.day) k
price_one k x p q = one_price k.0 k.1 k.2 x.base x.quote x.day (Int (pos x.rate) ∷ [])

plain_one : (k : PairKey) (x : PlainRow) → any_key k → any_key {K = PairKey} (x.account, x.commodity)
    → has_key 2 (pair_key k.0 k.1) (plain_cells x) ≡ true → ◌≡◌ {A = PairKey} (x.account, x.commodity) k
plain_one k x p q = one_pair k.0 k.1 x.account x.commodity (Int x.units ∷ [])

head_one : (k : PairKey) (x : HeadRow) → any_key k → any_key {K = PairKey} (x.account, x.commodity)
    → has_key 2 (pair_key k.0 k.1) (head_cells x) ≡ true → ◌≡◌ {A = PairKey} (x.account, x.commodity) k
head_one k x p q = one_pair k.0 k.1 x.account x.commodity (Int x.day ∷ [])

lot_one : (k : LotPlace) (x : LotRow) → is_lot_place k → is_lot_place (x.account, x.commodity, x.lot)
    → has_key 6 (lot_key k.0 k.1 k.2) (lot_cells x) ≡ true → ◌≡◌ {A = LotPlace} (x.account, x.commodity, x.lot) k
lot_one k x p q = one_lot k.0 k.1 x.account x.commodity k.2 x.lot (Int x.units ∷ []) p q

opening_one : (k : LotPlace) (x : OpeningRow) → is_lot_place k → is_lot_place (x.account, x.commodity, x.lot)
    → has_key 6 (lot_key k.0 k.1 k.2) (opening_cells x) ≡ true → ◌≡◌ {A = LotPlace} (x.account, x.commodity, x.lot) k
opening_one k x p q = one_lot k.0 k.1 x.account x.commodity k.2 x.lot (Int (pos x.opening) ∷ []) p q

-- ---- the rows of each table under a key

module _ (entries : List Entry) where
  abbrev account_at : List ℕ → Option AccountRow
  account_at name = option_map (account_row name) (standing_of entries name)

  abbrev commodity_at : List ℕ → Option CommodityRow
  commodity_at name = option_map (commodity_row name) (declared_on entries name)

  abbrev price_at : PriceKey → Option PriceRow
  price_at k = option_map (price_row k.0 k.1 k.2) (rate_on entries k.0 k.1 k.2)

  abbrev lot_at : LotPlace → Option LotRow
  lot_at k = option_map (lot_row k.0 k.1 k.2) (non_zero (sum_in entries (position_of k)))

  abbrev plain_at : PairKey → Option PlainRow
  plain_at k = option_map (plain_row k.0 k.1) (non_zero (sum_in entries (plain_of k)))

  abbrev opening_at : LotPlace → Option OpeningRow
  opening_at k = option_map (opening_row k.0 k.1 k.2) (opening_number (legs_of entries) (position_of k))

  abbrev head_at : PairKey → Option HeadRow
  head_at k = option_map (head_row k.0 k.1) (latest_at_cost entries k.0 k.1)

abbrev price_keys : PriceKey → Row
price_keys k = price_key k.0 k.1 k.2

abbrev lot_keys : LotPlace → Row
lot_keys k = lot_key k.0 k.1 k.2

abbrev pair_keys : PairKey → Row
pair_keys k = pair_key k.0 k.1

-- ---- all tables

module _ (tables : Tables) (entries : List Entry) where
  lots_good : AllByRecursion IsLotRow tables.lot → (x : LotRow) → Has tables.lot x → is_lot_place (x.account, x.commodity, x.lot)
  lots_good all x has = (all_has IsLotRow tables.lot x all has).lot

  openings_good : AllByRecursion IsOpeningRow tables.opening → (x : OpeningRow) → Has tables.opening x
      → is_lot_place (x.account, x.commodity, x.lot)
  openings_good all x has = (all_has IsOpeningRow tables.opening x all has).lot

  pub stands : (place : ℕ) → AllAgree place tables entries → (stand : StandFor tables entries) × (stand.place ≡ place)
  stands place a =
      let lots = lots_good (recursion_from_All IsLotRow tables.lot a.good.lot) in
      let openings = openings_good (recursion_from_All IsOpeningRow tables.opening a.good.opening) in
      let stand : StandFor tables entries = record {
        good = a.good;
        ordered = a.ordered;
        said = a.said;
        book = a.book;
        place = place;
        placed = a.placed;
        judged = a.judged;
        migration = a.migration;
        account = λ name.
            looked_up account_table name_key (λ (x : AccountRow). x.name) any_key (account_at entries) tables
            (λ x has. tt) account_one a.account name tt;
        allowed = allowed_looked_up entries tables a.allowed;
        commodity = λ name.
            looked_up commodity_table name_key (λ (x : CommodityRow). x.name) any_key (commodity_at entries) tables
            (λ x has. tt) commodity_one a.commodity name tt;
        price = λ base quote day.
            looked_up price_table price_keys (λ (x : PriceRow). (x.base, x.quote, x.day)) any_key (price_at entries) tables
            (λ x has. tt) price_one a.price (base, quote, day) tt;
        entry = a.entry;
        leg = legs_looked_up place entries tables a.judged (recursion_from_All IsLegRow tables.leg a.good.leg) a.leg;
        sales = a.sales;
        sold = a.sold;
        sale = a.sale;
        lot = λ account commodity lot is.
            looked_up lot_table lot_keys (λ (x : LotRow). (x.account, x.commodity, x.lot)) is_lot_place (lot_at entries) tables
            lots lot_one a.lot (account, commodity, lot) is;
        plain = λ account commodity.
            looked_up plain_table pair_keys (λ (x : PlainRow). (x.account, x.commodity)) any_key (plain_at entries) tables
            (λ x has. tt) plain_one a.plain (account, commodity) tt;
        opening = λ account commodity lot is.
            looked_up opening_table lot_keys (λ (x : OpeningRow). (x.account, x.commodity, x.lot)) is_lot_place
            (opening_at entries) tables openings opening_one a.opening (account, commodity, lot) is;
        head = λ account commodity.
            looked_up head_table pair_keys (λ (x : HeadRow). (x.account, x.commodity)) any_key (head_at entries) tables
            (λ x has. tt) head_one a.head (account, commodity) tt;
      } in
      (stand, refl)

  pub agree : (s : StandFor tables entries) → AllAgree s.place tables entries
  agree s =
      let lots = lots_good (recursion_from_All IsLotRow tables.lot s.good.lot) in
      let openings = openings_good (recursion_from_All IsOpeningRow tables.opening s.good.opening) in
      record {
        good = s.good;
        ordered = s.ordered;
        said = s.said;
        book = s.book;
        placed = s.placed;
        judged = s.judged;
        migration = s.migration;
        entry = s.entry;
        account =
            agreed account_table name_key (λ (x : AccountRow). x.name) any_key (account_at entries) tables (λ x has. tt)
            account_one s.ordered.account (λ x. has_own_key 1 (account_cells x)) (λ k is. s.account k);
        allowed = allowed_agreed entries tables s.allowed;
        commodity =
            agreed commodity_table name_key (λ (x : CommodityRow). x.name) any_key (commodity_at entries) tables (λ x has. tt)
            commodity_one s.ordered.commodity (λ x. has_own_key 1 (commodity_cells x)) (λ k is. s.commodity k);
        price =
            agreed price_table price_keys (λ (x : PriceRow). (x.base, x.quote, x.day)) any_key (price_at entries) tables
            (λ x has. tt) price_one s.ordered.price (λ x. has_own_key 3 (price_cells x)) (λ k is. s.price k.0 k.1 k.2);
        leg = legs_agreed s.place entries tables s.judged (recursion_from_All IsLegRow tables.leg s.good.leg) s.leg;
        sales = s.sales;
        sold = s.sold;
        sale = s.sale;
        lot =
            agreed lot_table lot_keys (λ (x : LotRow). (x.account, x.commodity, x.lot)) is_lot_place (lot_at entries) tables
            lots lot_one s.ordered.lot (λ x. has_own_key 6 (lot_cells x)) (λ k is. s.lot k.0 k.1 k.2 is);
        plain =
            agreed plain_table pair_keys (λ (x : PlainRow). (x.account, x.commodity)) any_key (plain_at entries) tables
            (λ x has. tt) plain_one s.ordered.plain (λ x. has_own_key 2 (plain_cells x)) (λ k is. s.plain k.0 k.1);
        opening =
            agreed opening_table lot_keys (λ (x : OpeningRow). (x.account, x.commodity, x.lot)) is_lot_place
            (opening_at entries) tables openings opening_one s.ordered.opening (λ x. has_own_key 6 (opening_cells x))
            (λ k is. s.opening k.0 k.1 k.2 is);
        head =
            agreed head_table pair_keys (λ (x : HeadRow). (x.account, x.commodity)) any_key (head_at entries) tables
            (λ x has. tt) head_one s.ordered.head (λ x. has_own_key 2 (head_cells x)) (λ k is. s.head k.0 k.1);
      }

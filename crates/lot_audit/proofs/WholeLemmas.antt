-- The statements that answer all rows of a table.
use Rattle.std.specs.declared.alloc.Global.{Global}
use Rattle.std.proofs.Common.{Result, Vec, subst, ◌≡◌, ℕ, All, List, [], ◌∷◌, codes, refl, arith}
use Rattle.sqlite.specs.Listing.{understood}
use Rattle.sqlite.specs.Order.{Row}
use Rattle.sqlite.specs.State.{State}
use Rattle.sqlite.specs.Term.{Term}
use Rattle.sqlite_tied.specs.Compute.{everything}
use Rattle.sqlite_value.specs.declared.keys.Key.{Key}
use Rattle.lot_table.proofs.QueryLemmas.{IsQuery, Picks, every_one, lists_columns}
use Rattle.lot_table.proofs.ReadLemmas.{key_terms}
use Rattle.lot_table.proofs.StatementLemmas.{IsTable}
use Rattle.lot_table.specs.Call.{ListsColumns, Selects}
use Rattle.lot_table.specs.declared.fault.Fault.{Fault}
use Rattle.lot_table.specs.Rows.{has_key}
use Rattle.lot_rows.specs.Tables.{Tables, account_table, allowed_table, commodity_table, head_table, layout, lot_table, opening_table, plain_table, price_table}
use Rattle.lot_rows.specs.Lot.{IsLotRow, lot_cells}
use Rattle.lot_rows.specs.Price.{IsPriceRow, price_cells}
use Rattle.lot_rows.specs.Account.{IsAccountRow, account_cells}
use Rattle.lot_rows.specs.Allowed.{IsAllowedRow, allowed_cells}
use Rattle.lot_rows.specs.Commodity.{IsCommodityRow, commodity_cells}
use Rattle.lot_rows.specs.Head.{IsHeadRow, head_cells}
use Rattle.lot_rows.specs.Opening.{IsOpeningRow, opening_cells}
use Rattle.lot_rows.specs.Plain.{IsPlainRow, plain_cells}
use Rattle.lot_rows.proofs.AccountLemmas.{is_table as account_is, names as account_names, order as account_order, shows as account_shows}
use Rattle.lot_rows.proofs.AllowedLemmas.{is_table as allowed_is, names as allowed_names, order as allowed_order, shows as allowed_shows}
use Rattle.lot_rows.proofs.CommodityLemmas.{is_table as commodity_is, names as commodity_names, order as commodity_order, shows as commodity_shows}
use Rattle.lot_rows.proofs.HeadLemmas.{is_table as head_is, names as head_names, order as head_order, shows as head_shows}
use Rattle.lot_rows.proofs.OpeningLemmas.{is_table as opening_is, names as opening_names, order as opening_order, shows as opening_shows}
use Rattle.lot_rows.proofs.LotLemmas.{is_table as lot_is, names as lot_names, order as lot_order, shows as lot_shows}
use Rattle.lot_rows.proofs.PriceLemmas.{is_table as price_is, names as price_names, order as price_order, shows as price_shows}
use Rattle.lot_rows.proofs.PlainLemmas.{is_table as plain_is, list_is}
use Rattle.lot_stored.specs.StandFor.{AreOfBook}
use Rattle.lot_table.specs.Book.{BookTable}
use Rattle.lot_audit.specs.Whole.{AsksForAll}
use Rattle.lot_audit.proofs.GoodLemmas.{one_account, one_allowed, one_commodity, one_head, one_lot, one_opening, one_plain, one_price}

module _ {X : Type 0} (t : BookTable Tables X) (is : IsTable layout t) (text : List ℕ) where
  -- a statement without parameters asks for all rows of its table
  asks_for_all : {shows : List Term} {order : List (Term × Key)} {names : List (List ℕ)}
      → IsQuery layout.schema t.table.tree (key_terms 0 0) shows order names 0 text
      → Picks layout t (key_terms 0 0) shows order [] (has_key 0 [])
      → (IsGood : X → Type 0) → ((x y : X) → IsGood x → IsGood y → t.encode x ≡ t.encode y → x ≡ y)
      → ((tables : Tables) → AreOfBook tables → All IsGood (t.rows tables)) → AsksForAll t.encode IsGood t.rows text
  asks_for_all {shows} {order} {names} query picks IsGood one sound = record {
    table = t;
    encodes = refl;
    lists = refl;
    is = is;
    asks = record { tests = key_terms 0 0; shows = shows; order = order; names = names; is = query; picks = picks };
    one = one;
    sound = sound;
  }

-- its answer is all of them
pub lists_all : {X : Type 0} (encode : X → Row) (IsGood : X → Type 0) (rows : Tables → List X) (text : List ℕ)
    → AsksForAll encode IsGood rows text → (old new : State) (result : Result (Vec X Global) Fault)
    → Selects encode IsGood (λ xs found. found.items ≡ xs) (λ found. All IsGood found.items) text [] old new result
    → ListsColumns layout encode IsGood rows old new result
lists_all {X} encode IsGood rows text all old new result =
    let t = all.table in
    subst (λ (cells : X → Row). Selects cells IsGood (λ xs found. found.items ≡ xs) (λ found. All IsGood found.items) text [] old new result
    → ListsColumns layout cells IsGood rows old new result) all.encodes
    (subst (λ (of : Tables → List X). Selects t.encode IsGood (λ xs found. found.items ≡ xs) (λ found. All IsGood found.items) text [] old new result
    → ListsColumns layout t.encode IsGood of old new result) all.lists
    (lists_columns layout t all.is [] (has_key 0 []) text all.asks old new IsGood t.rows (λ b. every_one t.encode [] (t.rows b)) result))

-- ---- account

abbrev account_text : List ℕ
account_text = codes "SELECT name, opened, closed, method FROM account ORDER BY name"

pub account_query : IsQuery layout.schema account_table.table.tree (key_terms 0 0) account_shows account_order account_names 0 account_text
unfolding understood everything
account_query = record { means = refl; unlisted = refl; bare = (refl, refl); whole = (omega arith, refl); selects = (_, refl, refl) }

pub account_all : AsksForAll account_cells IsAccountRow (λ b. b.account) account_text
account_all =
    asks_for_all account_table account_is account_text account_query
    (record { alike = λ _ _. refl; blind = λ _ _ _. refl; shown = λ _. refl; sorts = λ _ _ _. refl; typed = refl })
    IsAccountRow one_account (λ tables of. of.2.good.account)

-- ---- allowed

abbrev allowed_text : List ℕ
allowed_text = codes "SELECT account, place, commodity FROM allowed ORDER BY account, place"

pub allowed_query : IsQuery layout.schema allowed_table.table.tree (key_terms 0 0) allowed_shows allowed_order allowed_names 0 allowed_text
unfolding understood everything
allowed_query = record { means = refl; unlisted = refl; bare = (refl, refl); whole = (omega arith, refl); selects = (_, refl, refl) }

pub allowed_all : AsksForAll allowed_cells IsAllowedRow (λ b. b.allowed) allowed_text
allowed_all =
    asks_for_all allowed_table allowed_is allowed_text allowed_query
    (record { alike = λ _ _. refl; blind = λ _ _ _. refl; shown = λ _. refl; sorts = λ _ _ _. refl; typed = refl })
    IsAllowedRow one_allowed (λ tables of. of.2.good.allowed)

-- ---- commodity

abbrev commodity_text : List ℕ
commodity_text = codes "SELECT name, day FROM commodity ORDER BY name"

pub commodity_query : IsQuery layout.schema commodity_table.table.tree (key_terms 0 0) commodity_shows commodity_order commodity_names 0 commodity_text
unfolding understood everything
commodity_query = record { means = refl; unlisted = refl; bare = (refl, refl); whole = (omega arith, refl); selects = (_, refl, refl) }

pub commodity_all : AsksForAll commodity_cells IsCommodityRow (λ b. b.commodity) commodity_text
commodity_all =
    asks_for_all commodity_table commodity_is commodity_text commodity_query
    (record { alike = λ _ _. refl; blind = λ _ _ _. refl; shown = λ _. refl; sorts = λ _ _ _. refl; typed = refl })
    IsCommodityRow one_commodity (λ tables of. of.2.good.commodity)

-- ---- head

abbrev head_text : List ℕ
head_text = codes "SELECT account, commodity, day FROM head ORDER BY account, commodity"

pub head_query : IsQuery layout.schema head_table.table.tree (key_terms 0 0) head_shows head_order head_names 0 head_text
unfolding understood everything
head_query = record { means = refl; unlisted = refl; bare = (refl, refl); whole = (omega arith, refl); selects = (_, refl, refl) }

pub head_all : AsksForAll head_cells IsHeadRow (λ b. b.head) head_text
head_all =
    asks_for_all head_table head_is head_text head_query
    (record { alike = λ _ _. refl; blind = λ _ _ _. refl; shown = λ _. refl; sorts = λ _ _ _. refl; typed = refl })
    IsHeadRow one_head (λ tables of. of.2.good.head)

-- ---- opening

abbrev opening_text : List ℕ
opening_text = codes "SELECT account, commodity, cost_day, cost_currency, cost_number, cost_label, opening FROM opening ORDER BY account, commodity, cost_day, cost_currency, cost_number, cost_label"

pub opening_query : IsQuery layout.schema opening_table.table.tree (key_terms 0 0) opening_shows opening_order opening_names 0 opening_text
unfolding understood everything
opening_query = record { means = refl; unlisted = refl; bare = (refl, refl); whole = (omega arith, refl); selects = (_, refl, refl) }

pub opening_all : AsksForAll opening_cells IsOpeningRow (λ b. b.opening) opening_text
opening_all =
    asks_for_all opening_table opening_is opening_text opening_query
    (record { alike = λ _ _. refl; blind = λ _ _ _. refl; shown = λ _. refl; sorts = λ _ _ _. refl; typed = refl })
    IsOpeningRow one_opening (λ tables of. of.2.good.opening)

-- ---- lot

abbrev lot_text : List ℕ
lot_text = codes "SELECT account, commodity, cost_day, cost_currency, cost_number, cost_label, units FROM lot ORDER BY account, commodity, cost_day, cost_currency, cost_number, cost_label"

pub lot_query : IsQuery layout.schema lot_table.table.tree (key_terms 0 0) lot_shows lot_order lot_names 0 lot_text
unfolding understood everything
lot_query = record { means = refl; unlisted = refl; bare = (refl, refl); whole = (omega arith, refl); selects = (_, refl, refl) }

pub lot_all : AsksForAll lot_cells IsLotRow (λ b. b.lot) lot_text
lot_all =
    asks_for_all lot_table lot_is lot_text lot_query
    (record { alike = λ _ _. refl; blind = λ _ _ _. refl; shown = λ _. refl; sorts = λ _ _ _. refl; typed = refl })
    IsLotRow one_lot (λ tables of. of.2.good.lot)

-- ---- price

abbrev prices_text : List ℕ
prices_text = codes "SELECT base, quote, day, rate FROM price ORDER BY base, quote, day"

pub prices_query : IsQuery layout.schema price_table.table.tree (key_terms 0 0) price_shows price_order price_names 0 prices_text
unfolding understood everything
prices_query = record { means = refl; unlisted = refl; bare = (refl, refl); whole = (omega arith, refl); selects = (_, refl, refl) }

pub price_all : AsksForAll price_cells IsPriceRow (λ b. b.price) prices_text
price_all =
    asks_for_all price_table price_is prices_text prices_query
    (record { alike = λ _ _. refl; blind = λ _ _ _. refl; shown = λ _. refl; sorts = λ _ _ _. refl; typed = refl })
    IsPriceRow one_price (λ tables of. of.2.good.price)

-- ---- plain

abbrev plain_text : List ℕ
plain_text = codes "SELECT account, commodity, units FROM plain ORDER BY account, commodity"

pub plain_all : AsksForAll plain_cells IsPlainRow (λ b. b.plain) plain_text
plain_all =
    asks_for_all plain_table plain_is plain_text list_is
    (record { alike = λ _ _. refl; blind = λ _ _ _. refl; shown = λ _. refl; sorts = λ _ _ _. refl; typed = refl })
    IsPlainRow one_plain (λ tables of. of.2.good.plain)

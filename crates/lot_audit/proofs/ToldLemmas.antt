-- Rows that say what is known of a book agree with it, where its entries have the rows of their commands and what is held has
-- its rows; and rows that agree say what is known.
use Rattle.std.specs.Prelude.{◌≡◌, ◌≢◌, ℕ, ℤ, pos, Bool, true, false, cond, is_some, List, [], option_map, Option, None, Some}
use Rattle.std.specs.FinMap as finite
use Rattle.std.specs.Option.{unwrap_or}
use Rattle.std.specs.Ordering.{int_eq}
use Rattle.std.specs.List.{AllByRecursion}
use Rattle.std.proofs.Common.{refl, sym, ap, ◌∙◌}
use Rattle.std.proofs.lemmas.Bool.Decides.{Decides-int_eq}
use Rattle.std.proofs.lemmas.Bool.{true≢false}
use Rattle.sqlite_rules.proofs.ListLemmas.{all_from, all_has}
use Rattle.lot_cost.specs.declared.lot_key.LotKey.{LotKey}
use Rattle.lot_command.specs.declared.command.Opening.{Opening as OpeningOf}
use Rattle.lot_inv.specs.Inventory.{non_zero, units_at}
use Rattle.lot_book.specs.Facts.{Entry, Facts, closing_of, latest_at_cost, legs_of, opening_of, standing_by, standing_of}
use Rattle.lot_book.specs.Recorded.{facts_in}
use Rattle.lot_book.specs.OpeningNumber.{HasOpeningNumber, last_to_open, opening_number, posting_number}
use Rattle.lot_book.specs.Openings.{AreOpeningsOf}
use Rattle.lot_book.specs.declared.leg.Position.{Position}
use Rattle.lot_laws.proofs.LawHoldings.{holds_sum}
use Rattle.lot_laws.proofs.OpeningLemmas.{number_is, where_held}
use Rattle.lot_rows.specs.Lot.{lot_cells}
use Rattle.lot_rows.specs.Opening.{opening_cells}
use Rattle.lot_rows.specs.Plain.{plain_cells}
use Rattle.lot_rows.specs.declared.opening.OpeningRow.{OpeningRow}
use Rattle.lot_stored.proofs.HeldLemmas.{held_is_opened, lot_there, opening_there, plain_there}
use Rattle.lot_rows.specs.Commodity.{commodity_cells}
use Rattle.lot_rows.specs.Tables.{Tables, commodity_table, lot_table, opening_table, plain_table}
use Rattle.lot_rows.specs.declared.account.AccountRow.{AccountRow}
use Rattle.lot_rows.specs.declared.allowed.AllowedRow.{AllowedRow}
use Rattle.lot_rows.specs.declared.commodity.CommodityRow.{CommodityRow}
use Rattle.lot_rows.specs.declared.head.HeadRow.{HeadRow}
use Rattle.lot_rows.specs.declared.lot.LotRow.{LotRow}
use Rattle.lot_rows.specs.declared.plain.PlainRow.{PlainRow}
use Rattle.lot_rows.specs.declared.price.PriceRow.{PriceRow}
use Rattle.lot_stored.specs.Kept.{currencies_in, declared_on, rate_on}
use Rattle.lot_stored.specs.Rows.{account_row, allowed_rows, commodity_row, head_row, lot_key, lot_row, name_key, opening_row, pair_key, plain_row, price_row, row_at}
use Rattle.lot_stored.specs.StandFor.{IsOrdered, StandFor, sum_in}
use Rattle.lot_stored.proofs.KeptLemmas.{declared_as}
use Rattle.lot_stored.proofs.LookupLemmas.{has_own_key, row-only}
use Rattle.lot_view.specs.View.{known, known_with_openings}
use Rattle.lot_view.specs.declared.view.View.{View}
use Rattle.lot_audit.specs.Agree.{AccountsAgree, AllowedAgree, CommoditiesAgree, HeadsAgree, LotsAgree, OpeningsAgree, PlainAgree, PricesAgree, plain_of, position_of}
use Rattle.lot_audit.specs.Entries.{AllHave}
use Rattle.lot_audit.specs.Rates.{KeepsRates, price_told}
use Rattle.lot_audit.specs.Told.{HeldHasRows, RowsTold, TellsOpening, account_told, head_told, lot_told, opening_told, plain_told}
use Rattle.lot_audit.specs.declared.rates.Rates.{Rates}
use Rattle.lot_audit.proofs.EntryLemmas.{declared, opened, posted, quoted}

-- ---- options

by_option : {X : Type 0} {P : Type 0} (o : Option X) → (o ≡ None → P) → ((x : X) → o ≡ Some x → P) → P
by_option None none some = none refl
by_option (Some x) none some = some x refl

mapped_none : {X Y : Type 0} (f : X → Y) (o : Option X) → o ≡ None → option_map f o ≡ None
mapped_none f o is = ap (option_map f) is

-- what is there, where it isn't nothing
there : {X Y : Type 0} {P : Type 0} (f : X → Y) (o : Option X) → option_map f o ≢ None → ((x : X) → o ≡ Some x → P) → P
there f o some on = by_option o (λ none. absurd (some (mapped_none f o none))) on

not_none : {X : Type 0} (o : Option X) (x : X) → o ≡ Some x → o ≢ None
not_none o x is none = let absent : Some x ≡ None = sym is ∙ none in cc

true_some : {X : Type 0} (o : Option X) → is_some o ≡ true → o ≢ None
true_some None is none = true≢false (sym is)
true_some (Some x) is none = cc

some_true : {X : Type 0} (o : Option X) → o ≢ None → is_some o ≡ true
some_true None some = absurd (some refl)
some_true (Some x) some = refl

-- some units are held
some_is_held : (units : ℤ) → units ≢ pos 0 → non_zero units ≡ Some units
some_is_held units some = by (int_eq units (pos 0)) refl
  where
    by : (b : Bool) → int_eq units (pos 0) ≡ b → cond b None (Some units) ≡ Some units
    by true zero = absurd (some ((Decides-int_eq units (pos 0)).0 zero))
    by false apart = refl

module _ (view : View) (rates : Rates) (tables : Tables) (entries : List Entry) (facts : known view ≡ facts_in entries)
    (keeps : KeepsRates rates entries) where
  -- ---- what is known under a key is what the entries say

  account_is : (name : List ℕ) → account_told view name ≡ option_map (account_row name) (standing_of entries name)
  account_is name = ap (λ (f : Facts). option_map (account_row name) (f.standing name)) facts

  head_is : (account commodity : List ℕ)
      → head_told view account commodity ≡ option_map (head_row account commodity) (latest_at_cost entries account commodity)
  head_is account commodity =
      ap (λ (f : Facts). option_map (head_row account commodity) (f.latest_at_cost account commodity)) facts

  price_is : (base quote : List ℕ) (day : ℤ)
      → price_told rates base quote day ≡ option_map (price_row base quote day) (rate_on entries base quote day)
  price_is base quote day = ap (option_map (price_row base quote day)) (keeps base quote day)

  lot_is : (account commodity : List ℕ) (lot : LotKey) → lot_told view account commodity lot
      ≡ option_map (lot_row account commodity lot) (non_zero (sum_in entries (position_of (account, commodity, lot))))
  lot_is account commodity lot =
      ap (λ (f : Facts). option_map (lot_row account commodity lot) (non_zero (units_at (f.held account) (commodity, Some lot)))) facts
      ∙ ap (λ (units : ℤ). option_map (lot_row account commodity lot) (non_zero units))
      (holds_sum (legs_of entries) (position_of (account, commodity, lot)))

  plain_is : (account commodity : List ℕ) → plain_told view account commodity
      ≡ option_map (plain_row account commodity) (non_zero (sum_in entries (plain_of (account, commodity))))
  plain_is account commodity =
      ap (λ (f : Facts). option_map (plain_row account commodity) (non_zero (units_at (f.held account) (commodity, None)))) facts
      ∙ ap (λ (units : ℤ). option_map (plain_row account commodity) (non_zero units))
      (holds_sum (legs_of entries) (plain_of (account, commodity)))

  -- there is no row of what isn't held
  no_lot : (account commodity : List ℕ) (lot : LotKey) → units_at ((known view).held account) (commodity, Some lot) ≡ pos 0
      → lot_told view account commodity lot ≡ None
  no_lot account commodity lot zero = ap (λ (units : ℤ). option_map (lot_row account commodity lot) (non_zero units)) zero

  no_plain : (account commodity : List ℕ) → units_at ((known view).held account) (commodity, None) ≡ pos 0
      → plain_told view account commodity ≡ None
  no_plain account commodity zero = ap (λ (units : ℤ). option_map (plain_row account commodity) (non_zero units)) zero

  declared_is : (name : List ℕ) → (known view).is_declared name ≡ is_some (declared_on entries name)
  declared_is name = ap (λ (f : Facts). f.is_declared name) facts ∙ sym (declared_as entries name)

  opened_is : (name : List ℕ)
      → (known view).standing name ≡ option_map (standing_by (closing_of entries name)) (opening_of entries name)
  opened_is name = ap (λ (f : Facts). f.standing name) facts

  -- ---- rows that are told agree

  module _ (have : AllHave tables entries) (told : RowsTold view rates tables) where
    pub accounts_agree : AccountsAgree entries tables
    accounts_agree = record {
      each = all_from (λ (row : AccountRow). option_map (account_row row.name) (standing_of entries row.name) ≡ Some row) tables.account
          (λ row has.
          sym (account_is row.name)
          ∙ all_has (λ (r : AccountRow). account_told view r.name ≡ Some r) tables.account row told.account has);
      every = λ name is some.
          there (account_row name) (standing_of entries name) some (λ standing found.
          there (standing_by (closing_of entries name)) (opening_of entries name)
          (not_none (standing_of entries name) standing found)
          (λ opening here. (opened tables entries name opening have here).0));
    }

    pub allowed_agree : AllowedAgree entries tables
    allowed_agree = record {
      each = all_from (λ (row : AllowedRow). opening_of entries row.account ≢ None) tables.allowed
          (λ row has none.
          all_has (λ (r : AllowedRow). (known view).standing r.account ≢ None) tables.allowed row told.allowed has
          (opened_is row.account ∙ mapped_none (standing_by (closing_of entries row.account)) (opening_of entries row.account) none));
      every = λ account some.
          by_option (opening_of entries account) (λ none. absurd (some none))
          (λ opening here.
          (opened tables entries account opening have here).1
          ∙ sym (ap (λ (o : Option OpeningOf). allowed_rows account 0 (currencies_in o)) here));
    }

    pub commodities_agree : IsOrdered commodity_table tables → CommoditiesAgree entries tables
    commodities_agree rising = record {
      each = all_from (λ (row : CommodityRow). option_map (commodity_row row.name) (declared_on entries row.name) ≡ Some row) tables.commodity
          (λ row has.
          by_option (declared_on entries row.name)
          (λ none. absurd (true_some (declared_on entries row.name)
          (sym (declared_is row.name)
          ∙ all_has (λ (r : CommodityRow). (known view).is_declared r.name ≡ true) tables.commodity row told.commodity has) none))
          (λ day here.
          ap (option_map (commodity_row row.name)) here
          ∙ sym (declared tables entries row.name day have here)
          ∙ row-only commodity_cells 1 (name_key row.name) tables.commodity row rising has (has_own_key 1 (commodity_cells row))));
      every = λ name is some.
          there (commodity_row name) (declared_on entries name) some (λ day here.
          not_none (row_at commodity_table (name_key name) tables) (commodity_row name day)
          (declared tables entries name day have here));
    }

    pub prices_agree : PricesAgree entries tables
    prices_agree = record {
      each = all_from
          (λ (row : PriceRow). option_map (price_row row.base row.quote row.day) (rate_on entries row.base row.quote row.day) ≡ Some row)
          tables.price
          (λ row has.
          sym (price_is row.base row.quote row.day)
          ∙ all_has (λ (r : PriceRow). price_told rates r.base r.quote r.day ≡ Some r) tables.price row told.price has);
      every = λ k is some.
          there (price_row k.0 k.1 k.2) (rate_on entries k.0 k.1 k.2) some
          (λ rate here. quoted tables entries k.0 k.1 k.2 rate have here);
    }

    pub heads_agree : HeadsAgree entries tables
    heads_agree = record {
      each = all_from
          (λ (row : HeadRow). option_map (head_row row.account row.commodity) (latest_at_cost entries row.account row.commodity) ≡ Some row)
          tables.head
          (λ row has.
          sym (head_is row.account row.commodity)
          ∙ all_has (λ (r : HeadRow). head_told view r.account r.commodity ≡ Some r) tables.head row told.head has);
      every = λ k is some.
          there (head_row k.0 k.1) (latest_at_cost entries k.0 k.1) some
          (λ day here. posted tables entries k.0 k.1 day have here);
    }

    module _ (held : HeldHasRows view tables) where
      pub lots_agree : LotsAgree entries tables
      lots_agree = record {
        each = all_from
            (λ (row : LotRow). option_map (lot_row row.account row.commodity row.lot)
            (non_zero (sum_in entries (position_of (row.account, row.commodity, row.lot)))) ≡ Some row)
            tables.lot
            (λ row has.
            sym (lot_is row.account row.commodity row.lot)
            ∙ all_has (λ (r : LotRow). lot_told view r.account r.commodity r.lot ≡ Some r) tables.lot row told.lot has);
        every = λ k is some.
            (held k.0 k.1 (Some k.2) (λ zero. some (sym (lot_is k.0 k.1 k.2) ∙ no_lot k.0 k.1 k.2 zero))).0;
      }

      pub plain_agree : PlainAgree entries tables
      plain_agree = record {
        each = all_from
            (λ (row : PlainRow). option_map (plain_row row.account row.commodity)
            (non_zero (sum_in entries (plain_of (row.account, row.commodity)))) ≡ Some row)
            tables.plain
            (λ row has.
            sym (plain_is row.account row.commodity)
            ∙ all_has (λ (r : PlainRow). plain_told view r.account r.commodity ≡ Some r) tables.plain row told.plain has);
        every = λ k is some. held k.0 k.1 None (λ zero. some (sym (plain_is k.0 k.1) ∙ no_plain k.0 k.1 zero));
      }

  -- ---- opening numbers

  abbrev number_in : List ℕ → List ℕ → LotKey → Option ℕ
  number_in account commodity lot = opening_number (legs_of entries) (position_of (account, commodity, lot))

  abbrev number_known : List ℕ → List ℕ → LotKey → ℕ
  number_known account commodity lot = (known_with_openings view).opening account commodity lot

  module _ (numbers : AreOpeningsOf entries (known_with_openings view).opening) where
    opening_is : (account commodity : List ℕ) (lot : LotKey) → opening_told view account commodity lot
        ≡ option_map (opening_row account commodity lot) (number_in account commodity lot)
    opening_is account commodity lot = by_units (sum_in entries p) refl
      where
        p : Position
        p = position_of (account, commodity, lot)

        row : ℕ → OpeningRow
        row = opening_row account commodity lot

        told_row : LotRow → OpeningRow
        told_row _ = row (number_known account commodity lot)

        by_number : sum_in entries p ≢ pos 0 → (n : ℕ) × HasOpeningNumber (legs_of entries) p n
            → opening_told view account commodity lot ≡ option_map row (number_in account commodity lot)
        by_number some has =
            let there : number_in account commodity lot ≡ Some has.0 = number_is (legs_of entries) p has.0 has.1 in
            let known_is : number_known account commodity lot ≡ has.0 =
            numbers account commodity lot (λ none. some (sym (holds_sum (legs_of entries) p) ∙ none))
            ∙ ap (λ (o : Option ℕ). unwrap_or o 0) there in
            ap (option_map told_row) (lot_is account commodity lot)
            ∙ ap (λ (o : Option ℤ). option_map told_row (option_map (lot_row account commodity lot) o))
            (some_is_held (sum_in entries p) some)
            ∙ ap (λ (n : ℕ). Some (row n)) known_is
            ∙ sym (ap (option_map row) there)

        by_units : (units : ℤ) → sum_in entries p ≡ units
            → opening_told view account commodity lot ≡ option_map row (number_in account commodity lot)
        by_units units is = by_zero (int_eq (sum_in entries p) (pos 0)) refl
          where
            by_zero : (zero : Bool) → int_eq (sum_in entries p) (pos 0) ≡ zero
                → opening_told view account commodity lot ≡ option_map row (number_in account commodity lot)
            by_zero true nothing =
                ap (option_map told_row) (lot_is account commodity lot)
                ∙ ap (λ (b : Bool). option_map told_row (option_map (lot_row account commodity lot) (cond b None (Some (sum_in entries p))))) nothing
                ∙ sym (ap (λ (b : Bool). option_map row (cond b None (option_map posting_number (last_to_open p [] (legs_of entries))))) nothing)
            by_zero false some =
                let not_zero : sum_in entries p ≢ pos 0 =
                λ zero. absurd (true≢false (sym ((Decides-int_eq (sum_in entries p) (pos 0)).1 zero) ∙ some)) in
                by_number not_zero ((where_held (legs_of entries) account commodity lot).0
                (λ none. not_zero (sym (holds_sum (legs_of entries) p) ∙ none)))

    pub openings_agree : RowsTold view rates tables → HeldHasRows view tables → OpeningsAgree entries tables
    openings_agree told held = record {
      each = all_from
          (λ (row : OpeningRow). option_map (opening_row row.account row.commodity row.lot)
          (opening_number (legs_of entries) (position_of (row.account, row.commodity, row.lot))) ≡ Some row)
          tables.opening
          (λ row has.
          sym (opening_is row.account row.commodity row.lot)
          ∙ all_has (TellsOpening view) tables.opening row told.opening has);
      every = λ k is some.
          (held k.0 k.1 (Some k.2) (λ zero. some (sym (opening_is k.0 k.1 k.2)
          ∙ ap (option_map (λ (_ : LotRow). opening_row k.0 k.1 k.2 (number_known k.0 k.1 k.2))) (no_lot k.0 k.1 k.2 zero)))).1;
    }

    pub openings_told : OpeningsAgree entries tables → AllByRecursion (TellsOpening view) tables.opening
    openings_told agrees =
        all_from (TellsOpening view) tables.opening
        (λ row has. opening_is row.account row.commodity row.lot
        ∙ all_has (λ (r : OpeningRow). option_map (opening_row r.account r.commodity r.lot)
        (opening_number (legs_of entries) (position_of (r.account, r.commodity, r.lot))) ≡ Some r) tables.opening row agrees.each has)

  -- ---- what a book holds has its rows

  module _ (stand : StandFor tables entries) where
    found_units : (account : List ℕ) (place : List ℕ × Option LotKey) → units_at ((known view).held account) place ≢ pos 0
        → (units : ℤ) × (finite.get ((facts_in entries).held account) place ≡ Some units)
    found_units account place some =
        by (finite.get ((facts_in entries).held account) place) refl
      where
        by : (o : Option ℤ) → finite.get ((facts_in entries).held account) place ≡ o
            → (units : ℤ) × (finite.get ((facts_in entries).held account) place ≡ Some units)
        by None none =
            absurd (some (ap (λ (f : Facts). units_at (f.held account) place) facts
            ∙ ap (λ (o : Option ℤ). unwrap_or o (pos 0)) none))
        by (Some units) is = (units, is)

    pub held_has_rows : HeldHasRows view tables
    held_has_rows account commodity (Some lot) some =
        let units = found_units account (commodity, Some lot) some in
        let key = lot_key account commodity lot in
        let row = lot_row account commodity lot units.0 in
        let number = held_is_opened entries account commodity lot units.0 units.1 in
        let numbered = opening_row account commodity lot number.0 in (
          not_none (row_at lot_table key tables) row
              (row-only lot_cells 6 key tables.lot row stand.ordered.lot
              (lot_there tables entries stand account commodity lot units.0 units.1) (has_own_key 6 (lot_cells row))),
          not_none (row_at opening_table key tables) numbered
              (row-only opening_cells 6 key tables.opening numbered stand.ordered.opening
              (opening_there tables entries stand account commodity lot number.0 number.1) (has_own_key 6 (opening_cells numbered))),
        )
    held_has_rows account commodity None some =
        let units = found_units account (commodity, None) some in
        let key = pair_key account commodity in
        let row = plain_row account commodity units.0 in
        not_none (row_at plain_table key tables) row
        (row-only plain_cells 2 key tables.plain row stand.ordered.plain
        (plain_there tables entries stand account commodity units.0 units.1) (has_own_key 2 (plain_cells row)))

  -- ---- rows that agree are told

  module _ (accounts : AccountsAgree entries tables) (currencies : AllowedAgree entries tables)
      (commodities : CommoditiesAgree entries tables) (prices : PricesAgree entries tables) (lots : LotsAgree entries tables)
      (plain : PlainAgree entries tables) (heads : HeadsAgree entries tables)
      (openings : AllByRecursion (TellsOpening view) tables.opening) where
    pub rows_told : RowsTold view rates tables
    rows_told = record {
      account = all_from (λ (row : AccountRow). account_told view row.name ≡ Some row) tables.account
          (λ row has. account_is row.name
          ∙ all_has (λ (r : AccountRow). option_map (account_row r.name) (standing_of entries r.name) ≡ Some r) tables.account row accounts.each has);
      allowed = all_from (λ (row : AllowedRow). (known view).standing row.account ≢ None) tables.allowed
          (λ row has none.
          by_option (opening_of entries row.account)
          (all_has (λ (r : AllowedRow). opening_of entries r.account ≢ None) tables.allowed row currencies.each has)
          (λ opening here.
          not_none ((known view).standing row.account) (standing_by (closing_of entries row.account) opening)
          (opened_is row.account ∙ ap (option_map (standing_by (closing_of entries row.account))) here) none));
      commodity = all_from (λ (row : CommodityRow). (known view).is_declared row.name ≡ true) tables.commodity
          (λ row has.
          declared_is row.name
          ∙ some_true (declared_on entries row.name) (λ none.
          let found = all_has (λ (r : CommodityRow). option_map (commodity_row r.name) (declared_on entries r.name) ≡ Some r) tables.commodity row commodities.each has in
          let absent : None ≡ Some row = sym (mapped_none (commodity_row row.name) (declared_on entries row.name) none) ∙ found in
          cc));
      price = all_from (λ (row : PriceRow). price_told rates row.base row.quote row.day ≡ Some row) tables.price
          (λ row has. price_is row.base row.quote row.day
          ∙ all_has (λ (r : PriceRow). option_map (price_row r.base r.quote r.day) (rate_on entries r.base r.quote r.day) ≡ Some r) tables.price row prices.each has);
      lot = all_from (λ (row : LotRow). lot_told view row.account row.commodity row.lot ≡ Some row) tables.lot
          (λ row has. lot_is row.account row.commodity row.lot
          ∙ all_has (λ (r : LotRow). option_map (lot_row r.account r.commodity r.lot) (non_zero (sum_in entries (position_of (r.account, r.commodity, r.lot)))) ≡ Some r) tables.lot row lots.each has);
      plain = all_from (λ (row : PlainRow). plain_told view row.account row.commodity ≡ Some row) tables.plain
          (λ row has. plain_is row.account row.commodity
          ∙ all_has (λ (r : PlainRow). option_map (plain_row r.account r.commodity) (non_zero (sum_in entries (plain_of (r.account, r.commodity)))) ≡ Some r) tables.plain row plain.each has);
      head = all_from (λ (row : HeadRow). head_told view row.account row.commodity ≡ Some row) tables.head
          (λ row has. head_is row.account row.commodity
          ∙ all_has (λ (r : HeadRow). option_map (head_row r.account r.commodity) (latest_at_cost entries r.account r.commodity) ≡ Some r) tables.head row heads.each has);
      opening = openings;
    }

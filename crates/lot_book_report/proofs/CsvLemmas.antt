-- What is written as CSV of the rows that a walk gives.
use Rattle.std.proofs.Common.{◌≡◌, ◌≢◌, ◌∙◌, [], ◌∷◌, ◌++◌, List, ℕ, ℤ, Option, Some, None, Result, Ok, Err, map, append_assoc, append-nil, refl, sym, ap, subst, inl, inr}
use Rattle.std.specs.Prelude.{IfSome, OnOk}
use Rattle.std.proofs.KnownBytes.{Appends-nil, Appends-trans}
use Rattle.std.proofs.lemmas.Grind.{flat_map-append}
use Rattle.std.proofs.lemmas.List.{map-append, map-id}
use Rattle.std.specs.Io.KnownBytes.{Appends}
use Rattle.std.specs.List.{AllByRecursion}
use Rattle.sqlite.specs.Held.{state}
use Rattle.sqlite.specs.State.{HasCleanDisk, State}
use Rattle.sqlite.specs.Store.{Ghosts}
use Rattle.lot_book.specs.Facts.{Entry}
use Rattle.lot_book.specs.declared.holding.Holding.{Holding}
use Rattle.lot_report.specs.Fed.{joined, text_of}
use Rattle.lot_report.specs.declared.holdings.ValuedHolding.{ValuedHolding}
use Rattle.lot_report.specs.Report.{report_fault}
use Rattle.lot_report.specs.Written.{AppendsPrefix, WritesEach, WritesLine}
use Rattle.lot_report.specs.declared.line.PrintFault.{PrintFault}
use Rattle.lot_report.specs.declared.line.PrintFault.TheVariants.{Memory, Write}
use Rattle.lot_report.specs.declared.fault.ReportFault.TheVariants as report
use Rattle.lot_report.specs.declared.fault.RowFault.TheVariants.{Report, Spent}
use Rattle.lot_rows.proofs.StateLemmas.{early}
use Rattle.lot_rows.specs.Tables.{Tables}
use Rattle.lot_book_report.proofs.ReadLemmas.{handed}
use Rattle.lot_book_report.specs.Csv.{AreGood, AreRecordsOf, ShowsAllCsvWith, ShowsAllHoldingsCsv, ShowsAllSalesCsv, ShowsCsv, ShowsCsvWith, ShowsHoldingsCsv, ShowsSomeCsv, columns_for, record_of_holding, records_of_sale}
use Rattle.lot_book_report.specs.Holdings.{KeepsPrices, KeepsRowPrices, valued_with}
use Rattle.lot_book_report.specs.Show.{IsOfBook, ReadsBook}
use Rattle.lot_book_report.specs.declared.prices.DayPrices.{DayPrices}
use Rattle.lot_book_report.proofs.FeedLemmas.{all_with}
use Rattle.lot_book_report.proofs.PriceLemmas.{all_valued, none_valued}
use Rattle.lot_csv.specs.Holdings.{holdings_header}
use Rattle.lot_csv.specs.declared.holdings.Columns.TheVariants.{Costs, Values}
use Rattle.lot_csv.specs.Gains.{gains_header}
use Rattle.lot_book_report.specs.declared.fault.ShowFault.{ShowFault}
use Rattle.lot_book_report.specs.declared.fault.ShowFault.TheVariants.{Row as AtRow, Walk as AtWalk}
use Rattle.lot_store.specs.Walk.{Gives, GivesRows, HasGiven, HasGivenRows, Walks, WalksOverRows}
use Rattle.lot_store.specs.declared.book.Book.{Book}
use Rattle.lot_store.specs.declared.fault.StoreFault.{StoreFault}
use Rattle.lot_store.specs.declared.walk.Walk.{Walk}
use Rattle.lot_store.specs.declared.walk.WalkFault.{WalkFault}
use Rattle.lot_store.specs.declared.walk.WalkFault.TheVariants.{Ended, Failed}
use Rattle.lot_walk.specs.Gains.{AreAllSaleRows, HasLegs, Range as Days}
use Rattle.lot_stored.specs.StandFor.{Stands}
use Rattle.lot_walk.proofs.HoldingLemmas.{merged_holdings}
use Rattle.lot_walk.proofs.PriceLemmas.{prices_at_day}
use Rattle.lot_walk.specs.Holdings.{AreAllHoldingRows, IsAnyHolding, IsHoldings, merged}
use Rattle.lot_walk.specs.Prices.{prices_by}
use Rattle.lot_walk.specs.declared.gains.NumberedSale.{NumberedSale}

pub one_more : {X : Type 0} (records : X → List (List ℕ)) (rows : List X) (row : X) → text_of records (rows ++ row ∷ []) ≡ text_of records rows ++ joined (records row)
one_more records rows row =
    flat_map-append (λ (r : _). joined (records r)) rows (row ∷ [])
    ∙ ap (λ text. text_of records rows ++ text) (append-nil (joined (records row)))

-- the writer fails in a line
prefix_of_line : (start now : Option (List ℕ)) (line : List ℕ) (fault : PrintFault) → fault ≡ Write → WritesLine start now (Err fault) line → AppendsPrefix start now line
prefix_of_line start now line Write is part = part
prefix_of_line start now line Memory is part = cc

module _ {S Place Value Asked Shown : Type 0} (g : Ghosts S) (shown : Value → Shown) (IsGood : Value → Type 0) (AreAll : Asked → List Entry → List Shown → Type 0)
    (IsBehind : Place → Tables → Asked → List Entry → List Shown → Type 0) (AreAllRows : Asked → Tables → List Shown → Type 0)
    (IsBehindRows : Place → Tables → Asked → List Shown → Type 0) (header : List ℕ) (records : Value → List (List ℕ)) (first : Walk S Place g) (start : Option (List ℕ)) where
  abbrev pub Called : Walk S Place g → Walk S Place g → Result (Option Value) WalkFault → Type 0
  Called = Walks g shown IsGood AreAll IsBehind

  abbrev pub CalledOverRows : Walk S Place g → Walk S Place g → Result (Option Value) WalkFault → Type 0
  CalledOverRows = WalksOverRows g shown AreAllRows IsBehindRows

  abbrev pub Showing : Walk S Place g → Option (List ℕ) → Result (Unit {0}) ShowFault → Type 0
  Showing walk now result =
      (lines : Shown → List (List ℕ)) → AreRecordsOf shown records lines
      → HasCleanDisk (state g walk.book.now.conn) → (asked : Asked) (entries : List Entry) → HasGiven g AreAll IsBehind first asked entries []
      → (all : List Shown) × AreAll asked entries all × ShowsCsv header lines all start now result

  abbrev pub ShowingSome : Option (List ℕ) → Result (Unit {0}) ShowFault → Type 0
  ShowingSome now result = (lines : Shown → List (List ℕ)) → AreRecordsOf shown records lines → ShowsSomeCsv header lines start now result

  abbrev pub ShowingRows : Walk S Place g → Option (List ℕ) → Type 0
  ShowingRows walk now =
      (lines : Shown → List (List ℕ)) → AreRecordsOf shown records lines
      → HasCleanDisk (state g walk.book.now.conn) → (asked : Asked) (tables : Tables) → HasGivenRows g IsBehindRows first asked tables []
      → (all : List Shown) × AreAllRows asked tables all × AreGood shown IsGood all × Appends start now (header ++ text_of lines all)

  -- The records of the rows that the walk has given since it began are written, but for those of
  -- the last one.
  pub record Wrote (walk : Walk S Place g) (found : Option Value) (now : Option (List ℕ)) : Type 0 where
    pub values : List Value
    pub of_book : HasCleanDisk (state g walk.book.now.conn) → (asked : Asked) (entries : List Entry) → HasGiven g AreAll IsBehind first asked entries []
        → Gives g shown IsGood AreAll IsBehind walk asked entries (map shown values) found
    pub of_rows : HasCleanDisk (state g walk.book.now.conn) → (asked : Asked) (tables : Tables) → HasGivenRows g IsBehindRows first asked tables []
        → GivesRows g shown AreAllRows IsBehindRows walk asked tables (map shown values) found
    pub good : AllByRecursion IsGood values
    pub next : IfSome found IsGood
    pub written : Appends start now (header ++ text_of records values)

  -- ---- the records of what is told of rows

  module _ (lines : Shown → List (List ℕ)) (told : AreRecordsOf shown records lines) where
    told_values : (values : List Value) → text_of records values ≡ text_of lines (map shown values)
    told_values [] = refl
    told_values (value ∷ values) =
        ap (λ (texts : List (List ℕ)). joined texts ++ text_of records values) (told value)
        ∙ ap (λ text. joined (lines (shown value)) ++ text) (told_values values)

    told_written : (now : Option (List ℕ)) (values : List Value) → Appends start now (header ++ text_of records values)
        → Appends start now (header ++ text_of lines (map shown values))
    told_written now values wrote = subst (λ text. Appends start now (header ++ text)) (told_values values) wrote

  -- ---- before the first row

  module _ (after : Walk S Place g) where
    -- the book stops
    pub not_begun : (fault : StoreFault) → Showing after start (Err (AtWalk (Failed fault)))
    not_begun fault = λ lines told clean asked entries has. (has.prefix.0, has.prefix.1, inl (Appends-nil start))

    pub some_not_begun : (fault : StoreFault) → ShowingSome start (Err (AtWalk (Failed fault)))
    some_not_begun fault = λ lines told. ([], inl (Appends-nil start))

    module _ (now : Option (List ℕ)) (fault : PrintFault) (is : fault ≡ Write) (part : WritesLine start now (Err fault) header) where
      -- the writer fails in the header
      pub no_header : Showing after now (Err (AtRow (Report (report_fault fault))))
      no_header =
          subst (λ (f : PrintFault). Showing after now (Err (AtRow (Report (report_fault f))))) (sym is)
          (λ lines told clean asked entries has. (has.prefix.0, has.prefix.1, inl (prefix_of_line start now header fault is part)))

      pub some_no_header : ShowingSome now (Err (AtRow (Report (report_fault fault))))
      some_no_header =
          subst (λ (f : PrintFault). ShowingSome now (Err (AtRow (Report (report_fault f))))) (sym is)
          (λ lines told. ([], inl (prefix_of_line start now header fault is part)))

    -- the header is written
    pub begun : (found : Option Value) (now : Option (List ℕ)) → Called first after (Ok found) → CalledOverRows first after (Ok found)
        → Appends start now header → Wrote after found now
    begun found now walks rows wrote = record {
      values = [];
      of_book = λ clean asked entries has. walks.gives clean asked entries [] has;
      of_rows = λ clean asked tables has. rows clean asked tables [] has;
      good = tt;
      next = walks.good;
      written = subst (λ text. Appends start now text) (sym (append-nil header)) wrote;
    }

  -- ---- behind some rows

  -- what was given begins all rows
  begins : (walk : Walk S Place g) (asked : Asked) (entries : List Entry) (given : List Shown) (found : Option Value)
      → Gives g shown IsGood AreAll IsBehind walk asked entries given found → (rest : List Shown) × AreAll asked entries (given ++ rest)
  begins walk asked entries given (Some row) has =
      (shown row ∷ has.prefix.0, subst (AreAll asked entries) (append_assoc given (shown row ∷ []) has.prefix.0) has.prefix.1)
  begins walk asked entries given None all = ([], subst (AreAll asked entries) (sym (append-nil given)) all)

  module _ (walk : Walk S Place g) (found : Option Value) (now : Option (List ℕ)) (wrote : Wrote walk found now) where
    abbrev given : List Shown
    given = map shown wrote.values

    -- memory ends beside the book
    pub short : (fault : StoreFault) → Showing walk now (Err (AtWalk (Failed fault)))
    short fault = λ lines told clean asked entries has.
        let (rest, all) = begins walk asked entries given found (wrote.of_book clean asked entries has) in
        (given ++ rest, all, inr (given, rest, refl, told_written lines told now wrote.values wrote.written))

    pub some_short : (fault : StoreFault) → ShowingSome now (Err (AtWalk (Failed fault)))
    some_short fault = λ lines told. (given, inr (given, [], sym (append-nil given), told_written lines told now wrote.values wrote.written))

  module _ (walk : Walk S Place g) (now : Option (List ℕ)) (wrote : Wrote walk None now) where
    -- all is written
    pub whole : Showing walk now (Ok tt)
    whole = λ lines told clean asked entries has.
        (map shown wrote.values, wrote.of_book clean asked entries has, told_written lines told now wrote.values wrote.written)

    pub some_whole : ShowingSome now (Ok tt)
    some_whole = λ lines told. (map shown wrote.values, told_written lines told now wrote.values wrote.written)

    pub rows_whole : ShowingRows walk now
    rows_whole = λ lines told clean asked tables has.
        (map shown wrote.values, wrote.of_rows clean asked tables has, (wrote.values, refl, wrote.good), told_written lines told now wrote.values wrote.written)

  module _ (walk : Walk S Place g) (row : Value) (now later : Option (List ℕ)) (wrote : Wrote walk (Some row) now) where
    abbrev before : List Shown
    before = map shown wrote.values

    abbrev with_next : List Shown
    with_next = before ++ shown row ∷ []

    behind : (part : List ℕ) → Appends now later part → Appends start later (header ++ (text_of records wrote.values ++ part))
    behind part more =
        subst (λ text. Appends start later text) (append_assoc header (text_of records wrote.values) part)
        (Appends-trans start now later (header ++ text_of records wrote.values) part wrote.written more)

    -- ---- the next row isn't written, or not all of it

    abbrev Part : PrintFault → Type 0
    Part fault = WritesEach (λ (text : List ℕ). text) (records row) now later (Err fault)

    module _ (lines : Shown → List (List ℕ)) (told : AreRecordsOf shown records lines) where
      told_behind : (part : List ℕ) → Appends now later part → Appends start later (header ++ (text_of lines before ++ part))
      told_behind part more = subst (λ text. Appends start later (header ++ (text ++ part))) (told_values lines told wrote.values) (behind part more)

      cut_at : (all rest : List Shown) → all ≡ before ++ shown row ∷ rest → (fault : PrintFault)
          → WritesEach (λ (text : List ℕ). text) (lines (shown row)) now later (Err fault)
          → ShowsCsv header lines all start later (Err (AtRow (Report (report_fault fault))))
      cut_at all rest is Write (part, proper, more) = inr (before, shown row, rest, is, part, proper, told_behind part more)
      cut_at all rest is Memory (front, next, back, split, more) =
          (before, shown row, rest, is, joined front, (front, next, back, split, refl), told_behind (joined front) more)

      told_part : (fault : PrintFault) → Part fault → WritesEach (λ (text : List ℕ). text) (lines (shown row)) now later (Err fault)
      told_part fault part = subst (λ (texts : List (List ℕ)). WritesEach (λ (text : List ℕ). text) texts now later (Err fault)) (told row) part

    pub cut : (fault : PrintFault) → Part fault → Showing walk later (Err (AtRow (Report (report_fault fault))))
    cut fault part = λ lines told clean asked entries has.
        let (rest, all) = (wrote.of_book clean asked entries has).prefix in
        (with_next ++ rest, all, cut_at lines told _ rest (append_assoc before (shown row ∷ []) rest) fault (told_part lines told fault part))

    pub some_cut : (fault : PrintFault) → Part fault → ShowingSome later (Err (AtRow (Report (report_fault fault))))
    some_cut fault part = λ lines told. (with_next, cut_at lines told _ [] refl fault (told_part lines told fault part))

    -- ---- it is written

    module _ (more : Appends now later (joined (records row))) where
      given_more : map shown (wrote.values ++ row ∷ []) ≡ with_next
      given_more = map-append shown wrote.values (row ∷ [])

      with_row : Appends start later (header ++ text_of records (wrote.values ++ row ∷ []))
      with_row =
          subst (λ text. Appends start later text) (ap (λ text. header ++ text) (sym (one_more records wrote.values row)))
          (behind (joined (records row)) more)

      told_with_row : (lines : Shown → List (List ℕ)) → AreRecordsOf shown records lines → Appends start later (header ++ text_of lines with_next)
      told_with_row lines told =
          subst (λ (all : List Shown). Appends start later (header ++ text_of lines all)) given_more
          (told_written lines told later (wrote.values ++ row ∷ []) with_row)

      -- the book stops
      pub stopped : (after : Walk S Place g) (at : WalkFault) → Called walk after (Err at) → (fault : StoreFault)
          → Showing after later (Err (AtWalk (Failed fault)))
      stopped after at walks fault = λ lines told clean asked entries has.
          let was = early (state g walk.book.now.conn) (state g after.book.now.conn) walks.crash clean in
          let (rest, all) = (wrote.of_book was asked entries has).prefix in
          (with_next ++ rest, all, inr (with_next, rest, refl, told_with_row lines told))

      pub some_stopped : (fault : StoreFault) → ShowingSome later (Err (AtWalk (Failed fault)))
      some_stopped fault = λ lines told. (with_next, inr (with_next, [], sym (append-nil with_next), told_with_row lines told))

      -- the walk goes on
      pub grown : (after : Walk S Place g) (found : Option Value) → Called walk after (Ok found) → CalledOverRows walk after (Ok found)
          → Wrote after found later
      grown after found walks rows = record {
        values = wrote.values ++ row ∷ [];
        of_book = λ clean asked entries has.
            let was = early (state g walk.book.now.conn) (state g after.book.now.conn) walks.crash clean in
            subst (λ (given : List Shown). Gives g shown IsGood AreAll IsBehind after asked entries given found) (sym given_more)
            (walks.gives clean asked entries with_next (wrote.of_book was asked entries has));
        of_rows = λ clean asked tables has.
            let was = early (state g walk.book.now.conn) (state g after.book.now.conn) walks.crash clean in
            subst (λ (given : List Shown). GivesRows g shown AreAllRows IsBehindRows after asked tables given found) (sym given_more)
            (rows clean asked tables with_next (wrote.of_rows was asked tables has));
        good = all_with IsGood wrote.values row wrote.good wrote.next;
        next = walks.good;
        written = with_row;
      }

-- ---- rows that are told otherwise

told_text : {X Y : Type 0} (records : Y → List (List ℕ)) (told : X → Y) (rows : List X) → text_of (λ x. records (told x)) rows ≡ text_of records (map told rows)
told_text records told [] = refl
told_text records told (row ∷ rows) = ap (λ text. joined (records (told row)) ++ text) (told_text records told rows)

module _ {X Y : Type 0} (header : List ℕ) (records : Y → List (List ℕ)) (told : X → Y) (start now : Option (List ℕ)) where
  pub told_whole : (rows : List X) → Appends start now (header ++ text_of (λ x. records (told x)) rows) → Appends start now (header ++ text_of records (map told rows))
  told_whole rows wrote = subst (λ text. Appends start now (header ++ text)) (told_text records told rows) wrote

  told_split : (all front rest : List X) (row : X) → all ≡ front ++ row ∷ rest → map told all ≡ map told front ++ told row ∷ map told rest
  told_split all front rest row is = ap (map told) is ∙ map-append told front (row ∷ rest)

  told_front : (part : List ℕ) (front : List X) → Appends start now (header ++ (text_of (λ x. records (told x)) front ++ part))
      → Appends start now (header ++ (text_of records (map told front) ++ part))
  told_front part front wrote = subst (λ text. Appends start now (header ++ (text ++ part))) (told_text records told front) wrote

  -- the same report, of what is told of the rows
  pub told_csv : (all : List X) (result : Result (Unit {0}) ShowFault) → ShowsCsv header (λ x. records (told x)) all start now result
      → ShowsCsv header records (map told all) start now result
  told_csv all (Ok done) wrote = told_whole all wrote
  told_csv all (Err (AtWalk (Failed fault))) (inl none) = inl none
  told_csv all (Err (AtWalk (Failed fault))) (inr (front, rest, is, wrote)) =
      inr (map told front, map told rest, ap (map told) is ∙ map-append told front rest, told_whole front wrote)
  told_csv all (Err (AtWalk Ended)) never = absurd never
  told_csv all (Err (AtRow (Report report.Write))) (inl none) = inl none
  told_csv all (Err (AtRow (Report report.Write))) (inr (front, row, rest, is, part, proper, wrote)) =
      inr (map told front, told row, map told rest, told_split all front rest row is, part, proper, told_front part front wrote)
  told_csv all (Err (AtRow (Report report.Memory))) (front, row, rest, is, part, lines, wrote) =
      (map told front, told row, map told rest, told_split all front rest row is, part, lines, told_front part front wrote)
  told_csv all (Err (AtRow (Report report.Range))) never = absurd never
  told_csv all (Err (AtRow Spent)) never = absurd never

-- ---- the walk of a book

-- the book is handed back as the walk left it, which began at it
pub walked : {S A : Type 0} (g : Ghosts S) (book start later new : Book S g) (result : Result A ShowFault) → start ≡ book → new ≡ later
    → ReadsBook {A = A} g start later result → ReadsBook {A = A} g book new result
walked {S} {A} g book start later new result first last reads =
    handed g {A = A} book later new result last (subst (λ (b : Book S g). ReadsBook {A = A} g b later result) first reads)

-- sales that a walk gives as they are have their legs
pub all_sales : (tables : Tables) (days : Days) (start now : Option (List ℕ)) (result : Result (Unit {0}) ShowFault)
    → OnOk result ((all : List NumberedSale) × AreAllSaleRows days tables all × AreGood (λ (sold : NumberedSale). sold) HasLegs all
    × Appends start now (gains_header ++ text_of records_of_sale all))
    → ShowsAllSalesCsv tables days start now result
all_sales tables days start now (Ok done) (all, are, (values, is, good), wrote) =
    (all, are, subst (AllByRecursion HasLegs) (sym (is ∙ map-id values)) good, wrote)
all_sales tables days start now (Err fault) shows = tt

-- ---- holdings

-- the records of a holding with its value
abbrev pub valued_record : Option DayPrices → Holding → List (List ℕ)
valued_record prices holding = record_of_holding (columns_for prices) (valued_with prices holding)

module _ (prices : Option DayPrices) (start now : Option (List ℕ)) (result : Result (Unit {0}) ShowFault) where
  -- what is written of holdings is written of them with their values
  pub valued_csv : (entries : List Entry) → (all : List Holding) × IsHoldings entries all
      × ShowsCsv (holdings_header (columns_for prices)) (valued_record prices) all start now result
      → ShowsCsvWith entries prices start now result
  valued_csv entries (all, are, shows) =
      (all, are, told_csv (holdings_header (columns_for prices)) (record_of_holding (columns_for prices)) (valued_with prices) start now all result shows)

  pub some_valued_csv : (all : List Holding)
      × ShowsCsv (holdings_header (columns_for prices)) (valued_record prices) all start now result
      → ShowsSomeCsv (holdings_header (columns_for prices)) (record_of_holding (columns_for prices)) start now result
  some_valued_csv (all, shows) =
      (map (valued_with prices) all, told_csv (holdings_header (columns_for prices)) (record_of_holding (columns_for prices)) (valued_with prices) start now all result shows)

pub all_valued_csv : (prices : Option DayPrices) (start now : Option (List ℕ)) (result : Result (Unit {0}) ShowFault) (tables : Tables)
    → OnOk result ((all : List Holding) × AreAllHoldingRows tt tables all × AreGood (λ (holding : Holding). holding) IsAnyHolding all
    × Appends start now (holdings_header (columns_for prices) ++ text_of (valued_record prices) all))
    → ShowsAllCsvWith tables prices start now result
all_valued_csv prices start now (Ok done) tables (all, are, good, wrote) =
    (all, are, told_whole (holdings_header (columns_for prices)) (record_of_holding (columns_for prices)) (valued_with prices) start now all wrote)
all_valued_csv prices start now (Err fault) tables shows = tt

-- the columns are those of prices where a day is asked for
module _ (entries : List Entry) (start now : Option (List ℕ)) (result : Result (Unit {0}) ShowFault) where
  pub csv_with_prices : (day : ℤ) (prices : DayPrices)
      → KeepsPrices entries day prices → ShowsCsvWith entries (Some prices) start now result → ShowsHoldingsCsv entries (Some day) start now result
  csv_with_prices day prices (rows, are, same) (holdings, is, shows) = (
    Some rows,
    are,
    holdings,
    is,
    subst (λ (all : List ValuedHolding). ShowsCsv (holdings_header Values) (record_of_holding Values) all start now result) (all_valued prices rows same holdings) shows,
  )

  pub csv_without_prices : ShowsCsvWith entries None start now result → ShowsHoldingsCsv entries None start now result
  csv_without_prices (holdings, is, shows) = (
    None,
    tt,
    holdings,
    is,
    subst (λ (all : List ValuedHolding). ShowsCsv (holdings_header Costs) (record_of_holding Costs) all start now result) (none_valued holdings) shows,
  )

module _ (tables : Tables) (start now : Option (List ℕ)) where
  pub csv_rows_with_prices : (day : ℤ) (prices : DayPrices) (result : Result (Unit {0}) ShowFault)
      → KeepsRowPrices tables day prices → ShowsAllCsvWith tables (Some prices) start now result → ShowsAllHoldingsCsv tables (Some day) start now result
  csv_rows_with_prices day prices (Ok done) keeps (holdings, are, wrote) = (
    holdings,
    are,
    subst (λ (all : List ValuedHolding). Appends start now (holdings_header Values ++ text_of (record_of_holding Values) all))
        (all_valued prices (prices_by day tables.price) keeps holdings) wrote,
  )
  csv_rows_with_prices day prices (Err fault) keeps shows = tt

  pub csv_rows_without_prices : (result : Result (Unit {0}) ShowFault) → ShowsAllCsvWith tables None start now result → ShowsAllHoldingsCsv tables None start now result
  csv_rows_without_prices (Ok done) (holdings, are, wrote) =
      (holdings, are, subst (λ (all : List ValuedHolding). Appends start now (holdings_header Costs ++ text_of (record_of_holding Costs) all)) (none_valued holdings) wrote)
  csv_rows_without_prices (Err fault) shows = tt

-- the book stops before the first row
pub csv_not_begun : (old : State) (entries : List Entry) (day : ℤ) (start : Option (List ℕ)) (fault : ShowFault) → IsOfBook fault → fault ≢ AtWalk Ended
    → Stands old entries → ShowsHoldingsCsv entries (Some day) start start (Err fault)
csv_not_begun old entries day start (AtWalk (Failed cause)) of_book going stands =
    let tables = stands.tables in (
      Some (prices_by day tables.price),
      prices_at_day tables entries day stands.stand,
      merged tables.plain tables.lot,
      merged_holdings tables entries stands.stand,
      inl (Appends-nil start),
    )
csv_not_begun old entries day start (AtWalk Ended) of_book going stands = absurd (going refl)
csv_not_begun old entries day start (AtRow fault) of_book going stands = absurd of_book

pub csv_none_shown : (header : List ℕ) (records : ValuedHolding → List (List ℕ)) (start : Option (List ℕ)) (fault : ShowFault) → IsOfBook fault → fault ≢ AtWalk Ended
    → ShowsSomeCsv header records start start (Err fault)
csv_none_shown header records start (AtWalk (Failed cause)) of_book going = ([], inl (Appends-nil start))
csv_none_shown header records start (AtWalk Ended) of_book going = absurd (going refl)
csv_none_shown header records start (AtRow fault) of_book going = absurd of_book

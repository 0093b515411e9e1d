-- Reports of a book as CSV: a line with the names of the columns, and below it the records of rows
-- (docs/FORMATS.md, Tables for a spreadsheet).
use Rattle.std.specs.Prelude.{◌≡◌, ◌⊎◌, ℕ, ℤ, List, [], ◌∷◌, ◌++◌, map, OnOk, Option, None, Some, Result, Ok, Err}
use Rattle.std.specs.Io.KnownBytes.{Appends}
use Rattle.std.specs.List.{AllByRecursion}
use Rattle.lot_book.specs.Facts.{Entry}
use Rattle.lot_book.specs.declared.holding.Holding.{Holding}
use Rattle.lot_csv.specs.Gains.{gains_header, sale_records}
use Rattle.lot_csv.specs.Holdings.{holding_record, holdings_header}
use Rattle.lot_csv.specs.declared.holdings.Columns.{Columns}
use Rattle.lot_csv.specs.declared.holdings.Columns.TheVariants.{Costs, Values}
use Rattle.lot_report.specs.Fed.{AreLinesBefore, joined, text_of}
use Rattle.lot_report.specs.declared.holdings.ValuedHolding.{ValuedHolding}
use Rattle.lot_report.specs.Written.{AppendsPrefix, IsProperPrefixOf}
use Rattle.lot_report.specs.declared.fault.ReportFault.TheVariants.{Memory, Range, Write}
use Rattle.lot_report.specs.declared.fault.RowFault.TheVariants.{Report, Spent}
use Rattle.lot_rows.specs.Tables.{Tables}
use Rattle.lot_book_report.specs.Holdings.{ArePricesAsked, row_prices, valued_by, valued_with}
use Rattle.lot_book_report.specs.declared.fault.ShowFault.{ShowFault}
use Rattle.lot_book_report.specs.declared.fault.ShowFault.TheVariants.{Row as AtRow, Walk as AtWalk}
use Rattle.lot_book_report.specs.declared.prices.DayPrices.{DayPrices}
use Rattle.lot_store.specs.declared.walk.WalkFault.TheVariants.{Ended, Failed}
use Rattle.lot_walk.specs.Gains.{AreAllSaleRows, AreSalesWithin, HasLegs, Range as Days}
use Rattle.lot_walk.specs.Holdings.{AreAllHoldingRows, IsHoldings}
use Rattle.lot_walk.specs.declared.gains.NumberedSale.{NumberedSale}
use Rattle.lot_walk.specs.declared.price.PairPrice.{PairPrice}

-- ---- a header and records

-- a row whose records are written, and not all of them: those before it are whole
abbrev pub CutAt : {Row : Type 0} → List ℕ → (Row → List (List ℕ)) → List Row → Option (List ℕ)
    → Option (List ℕ) → (Row → List ℕ → Type 0) → Type 0
CutAt header records all start now IsLeft =
    (given : List _) × (row : _) × (rest : List _) × (all ≡ given ++ row ∷ rest)
    × (part : List ℕ) × IsLeft row part
    × Appends start now (header ++ (text_of records given ++ part))

-- The records of all rows are written below the header. Where the book stops, the records of the
-- rows before are written, and nothing else; or nothing is written. Where the writer fails, a
-- prefix of the header is written, or the records before and a prefix of the next row's records,
-- but not all of these. Out of memory, whole records of the next row are written, but not all.
abbrev pub ShowsCsv : {Row : Type 0} → List ℕ → (Row → List (List ℕ)) → List Row
    → Option (List ℕ) → Option (List ℕ) → Result (Unit {0}) ShowFault → Type 0
ShowsCsv header records all start now (Ok done) = Appends start now (header ++ text_of records all)
ShowsCsv header records all start now (Err (AtWalk (Failed fault))) =
    Appends start now []
    ⊎ ((given : List _) × (rest : List _) × (all ≡ given ++ rest)
    × Appends start now (header ++ text_of records given))
ShowsCsv header records all start now (Err (AtWalk Ended)) = ⊥
ShowsCsv header records all start now (Err (AtRow (Report Write))) =
    AppendsPrefix start now header
    ⊎ CutAt header records all start now (λ row part. IsProperPrefixOf part (joined (records row)))
ShowsCsv header records all start now (Err (AtRow (Report Memory))) =
    CutAt header records all start now (λ row part. AreLinesBefore (records row) part)
ShowsCsv header records all start now (Err (AtRow (Report Range))) = ⊥
ShowsCsv header records all start now (Err (AtRow Spent)) = ⊥

-- whatever the tables are, the records of some rows are
abbrev pub ShowsSomeCsv : {Row : Type 0} → List ℕ → (Row → List (List ℕ)) → Option (List ℕ)
    → Option (List ℕ) → Result (Unit {0}) ShowFault → Type 0
ShowsSomeCsv header records start now result =
    (rows : List _) × ShowsCsv header records rows start now result

-- the records of a row that a walk gives are those of what is told of it
abbrev pub AreRecordsOf : {Value Row : Type 0} → (Value → Row) → (Value → List (List ℕ))
    → (Row → List (List ℕ)) → Type 0
AreRecordsOf shown records told = (value : _) → records value ≡ told (shown value)

-- the rows that a walk gives, as values that are all good
abbrev pub AreGood : {Value Row : Type 0} → (Value → Row) → (Value → Type 0) → List Row → Type 0
AreGood shown IsGood rows =
    (values : List _) × (rows ≡ map shown values) × AllByRecursion IsGood values

-- ---- gains

abbrev pub records_of_sale : NumberedSale → List (List ℕ)
records_of_sale sold = sale_records sold.entry sold.posting sold.sale

-- the records of all sales of the book on those days are written, or as much of them as a fault
-- leaves
abbrev pub ShowsGainsCsv : List Entry → Days → Option (List ℕ) → Option (List ℕ)
    → Result (Unit {0}) ShowFault → Type 0
ShowsGainsCsv entries days start now result =
    (sales : List NumberedSale) × AreSalesWithin days entries sales
    × ShowsCsv gains_header records_of_sale sales start now result

abbrev pub ShowsSomeGainsCsv : Option (List ℕ) → Option (List ℕ) → Result (Unit {0}) ShowFault
    → Type 0
ShowsSomeGainsCsv start now result = ShowsSomeCsv gains_header records_of_sale start now result

-- Where no fault ends it, the records are those of all rows of sales on those days, whatever the
-- tables stand for: each with legs that come to its units.
abbrev pub ShowsAllSalesCsv : Tables → Days → Option (List ℕ) → Option (List ℕ)
    → Result (Unit {0}) ShowFault → Type 0
ShowsAllSalesCsv tables days start now result =
    OnOk result ((sales : List NumberedSale) × AreAllSaleRows days tables sales
    × AllByRecursion HasLegs sales
    × Appends start now (gains_header ++ text_of records_of_sale sales))

-- ---- holdings

-- the columns of prices and values are there where a day is asked for
abbrev pub columns_for : {X : Type 0} → Option X → Columns
columns_for None = Costs
columns_for (Some asked) = Values

abbrev pub record_of_holding : Columns → ValuedHolding → List (List ℕ)
record_of_holding columns row = holding_record columns row ∷ []

-- the records of all that the book holds are written, each lot at its price at the day, or as much
-- of them as a fault leaves
abbrev pub ShowsHoldingsCsv : List Entry → Option ℤ → Option (List ℕ) → Option (List ℕ)
    → Result (Unit {0}) ShowFault → Type 0
ShowsHoldingsCsv entries day start now result =
    (prices : Option (List PairPrice)) × ArePricesAsked entries day prices
    × (holdings : List Holding) × IsHoldings entries holdings
    × ShowsCsv (holdings_header (columns_for day)) (record_of_holding (columns_for day))
    (map (valued_by prices) holdings) start now result

abbrev pub ShowsSomeHoldingsCsv : Option ℤ → Option (List ℕ) → Option (List ℕ)
    → Result (Unit {0}) ShowFault → Type 0
ShowsSomeHoldingsCsv day start now result =
    ShowsSomeCsv (holdings_header (columns_for day)) (record_of_holding (columns_for day)) start now
    result

-- Where no fault ends it, the records are those of all rows of plain units and of lots, each lot at
-- the price that the rows of prices give.
abbrev pub ShowsAllHoldingsCsv : Tables → Option ℤ → Option (List ℕ) → Option (List ℕ)
    → Result (Unit {0}) ShowFault → Type 0
ShowsAllHoldingsCsv tables day start now result =
    OnOk result ((holdings : List Holding) × AreAllHoldingRows tt tables holdings
    × Appends start now (holdings_header (columns_for day)
    ++ text_of (record_of_holding (columns_for day))
    (map (valued_by (row_prices tables day)) holdings)))

-- ---- the same, with the prices that are kept

abbrev pub ShowsCsvWith : List Entry → Option DayPrices → Option (List ℕ) → Option (List ℕ)
    → Result (Unit {0}) ShowFault → Type 0
ShowsCsvWith entries prices start now result =
    (holdings : List Holding) × IsHoldings entries holdings
    × ShowsCsv (holdings_header (columns_for prices)) (record_of_holding (columns_for prices))
    (map (valued_with prices) holdings) start now result

abbrev pub ShowsAllCsvWith : Tables → Option DayPrices → Option (List ℕ) → Option (List ℕ)
    → Result (Unit {0}) ShowFault → Type 0
ShowsAllCsvWith tables prices start now result =
    OnOk result ((holdings : List Holding) × AreAllHoldingRows tt tables holdings
    × Appends start now (holdings_header (columns_for prices)
    ++ text_of (record_of_holding (columns_for prices)) (map (valued_with prices) holdings)))

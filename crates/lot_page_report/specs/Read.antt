-- What is read of a book for its page.
use Rattle.std.specs.Prelude.{◌≡◌, ◌&&◌, ℕ, ℤ, Bool, false, true, List, [], ◌∷◌, ◌++◌, Option, None, Some, Result, Err, IfErr, IfOk}
use Rattle.sqlite.specs.Store.{Ghosts}
use Rattle.lot_book.specs.Facts.{Entry}
use Rattle.lot_book.specs.Sale.{SaleParts}
use Rattle.lot_book_report.specs.Dump.{HoldsOfPlacedBook}
use Rattle.lot_book_report.specs.Fault.{is_of_writer}
use Rattle.lot_book_report.specs.Show.{HoldsOfBook, HoldsOfTables, ReadsBook}
use Rattle.lot_book_report.specs.declared.fault.ShowFault.{ShowFault}
use Rattle.lot_book_report.specs.declared.fault.ShowFault.TheVariants.{Row as AtRow}
use Rattle.lot_legs.specs.declared.leg.DatedLeg.{DatedLeg}
use Rattle.lot_months.specs.Lots.{HasFlows, HasTooMuch}
use Rattle.lot_months.specs.Prices.{HasPrices}
use Rattle.lot_months.specs.declared.flows.MonthFlows.{MonthFlows}
use Rattle.lot_months.specs.declared.prices.MonthPrices.{MonthPrices}
use Rattle.lot_months.specs.declared.range.MonthRange.{MonthRange}
use Rattle.lot_position.specs.Held.{Keeps}
use Rattle.lot_report.specs.declared.fault.ReportFault.TheVariants.{Range}
use Rattle.lot_report.specs.declared.fault.RowFault.TheVariants.{Report}
use Rattle.lot_rows.specs.Tables.{Tables}
use Rattle.lot_rows.specs.declared.price.PriceRow.{PriceRow}
use Rattle.lot_store.specs.declared.book.Book.{Book}
use Rattle.lot_tally.specs.Lots.{all_lots}
use Rattle.lot_tally.specs.Rows.{AreRows}
use Rattle.lot_tally.specs.Table.{IsTable, fits}
use Rattle.lot_tally.specs.declared.key.GainKey.TheVariants as key
use Rattle.lot_tally.specs.declared.key.TableForm.TheVariants.{Csv}
use Rattle.lot_page_report.specs.Sections.{Row}
use Rattle.lot_page_report.specs.declared.read.LegTally.{LegTally}
use Rattle.lot_page_report.specs.declared.read.QuoteTally.{QuoteTally}
use Rattle.lot_page_report.specs.declared.read.SalesTally.{SalesTally}

-- Something is read of a book, which changes nothing: what it is of the book whose entries the tables stand for, what it is of the
-- tables, whatever these stand for, and what it is in each case. A sum is told to leave its range only where one of the book does.
-- No fault is one of a writer.
pub record Reads {S A : Type 0} (g : Ghosts S) (old new : Book S g) (OfBook : ℕ → List Entry → A → Type 0) (OfTables : Tables → A → Type 0)
    (Any : A → Type 0) (LeavesRange : List Entry → Type 0) (result : Result A ShowFault) : Type 0 where
  pub book : HoldsOfPlacedBook g old new (λ place entries. IfOk result (OfBook place entries))
  pub tables : HoldsOfTables g old new (λ tables. IfOk result (OfTables tables))
  pub any : IfOk result Any
  pub range : HoldsOfBook g old new (λ entries. result ≡ Err (AtRow (Report Range)) → LeavesRange entries)
  pub reads : ReadsBook g old new result
  pub unwritten : IfErr result (λ fault. is_of_writer fault ≡ false)

-- ---- sales

-- whether all sums stay in their range with one more sale
abbrev pub all_fit : Unit {0} → List SaleParts → SaleParts → Bool
all_fit terms sales sale =
    fits (key.Year ∷ []) Csv sales sale && (fits (key.Commodity ∷ []) Csv sales sale && fits [] Csv sales sale)

-- the sales are added up by year, by commodity, and in all
pub record HasSales (terms : Unit {0}) (sales : List SaleParts) (tally : SalesTally) : Type 0 where
  pub years : IsTable (key.Year ∷ []) Csv sales tally.years
  pub commodities : IsTable (key.Commodity ∷ []) Csv sales tally.commodities
  pub currencies : IsTable [] Csv sales tally.currencies

-- these are the rows of the tables of such sales
pub record AreSalesRows (sales : List SaleParts) (by_year by_commodity in_all : List Row) : Type 0 where
  pub years : AreRows (all_lots (key.Year ∷ []) Csv sales) by_year
  pub commodities : AreRows (all_lots (key.Commodity ∷ []) Csv sales) by_commodity
  pub currencies : AreRows (all_lots [] Csv sales) in_all

-- ---- legs

-- what went into lots is kept for the months that there are
abbrev pub FlowsOf : Option MonthRange → List DatedLeg → Option MonthFlows → Type 0
FlowsOf None legs None = Unit {0}
FlowsOf None legs (Some flows) = ⊥
FlowsOf (Some range) legs None = ⊥
FlowsOf (Some range) legs (Some flows) = HasFlows range legs flows

abbrev pub Asked : Type 0
Asked = ℤ × Option MonthRange

-- what went into lots of some pair in a month is too much to be kept, behind some first legs
abbrev pub MoveTooMuch : Option MonthRange → List DatedLeg → Type 0
MoveTooMuch None legs = ⊥
MoveTooMuch (Some range) legs = (given : List DatedLeg) × (rest : List DatedLeg) × (legs ≡ given ++ rest) × HasTooMuch range given

pub record HasLegs (asked : Asked) (legs : List DatedLeg) (tally : LegTally) : Type 0 where
  pub positions : Keeps asked.0 legs tally.positions
  pub flows : tally.is_out ≡ false → FlowsOf asked.1 legs tally.flows
  pub out : tally.is_out ≡ true → MoveTooMuch asked.1 legs

-- the same where no sum left its range
pub record HasAllLegs (asked : Asked) (legs : List DatedLeg) (tally : LegTally) : Type 0 where
  pub positions : Keeps asked.0 legs tally.positions
  pub flows : FlowsOf asked.1 legs tally.flows

-- ---- prices

abbrev pub HasQuotes : MonthRange → List PriceRow → QuoteTally → Type 0
HasQuotes range quotes tally = HasPrices range quotes tally.prices

abbrev pub PricesOf : Option MonthRange → List PriceRow → Option MonthPrices → Type 0
PricesOf None quotes None = Unit {0}
PricesOf None quotes (Some prices) = ⊥
PricesOf (Some range) quotes None = ⊥
PricesOf (Some range) quotes (Some prices) = HasPrices range quotes prices

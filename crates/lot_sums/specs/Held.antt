-- The report of what a book held at the end of a day: the sums of the legs of its entries up to it, lot by lot, in the form of the
-- report of what it holds (docs/FORMATS.md, Holdings).
use Rattle.std.specs.Prelude.{◌⊎◌, ℕ, ℤ, List, [], map, OnOk, Option, Some, Result, Ok, Err, Vec, ⊤}
use Rattle.std.specs.Io.KnownBytes.{Appends}
use Rattle.std.specs.declared.alloc.Global.{Global}
use Rattle.lot_book.specs.Facts.{Entry}
use Rattle.lot_book.specs.declared.holding.Holding.{Holding}
use Rattle.lot_book_report.specs.Csv.{ShowsCsv, ShowsHoldingsCsv, record_of_holding}
use Rattle.lot_book_report.specs.Holdings.{ShowsHoldings, listed, valuation_at}
use Rattle.lot_book_report.specs.Show.{Shows}
use Rattle.lot_book_report.specs.declared.fault.ShowFault.{ShowFault}
use Rattle.lot_book_report.specs.declared.fault.ShowFault.TheVariants.{Row as AtRow, Walk as AtWalk}
use Rattle.lot_csv.specs.Holdings.{holdings_header}
use Rattle.lot_csv.specs.declared.holdings.Columns.{Columns}
use Rattle.lot_csv.specs.declared.holdings.Columns.TheVariants.{Values}
use Rattle.lot_legs.specs.Legs.{AreAllLegRows, dated_legs}
use Rattle.lot_legs.specs.declared.leg.DatedLeg.{DatedLeg}
use Rattle.lot_position.specs.Held.{AreInRange, ListsHeld}
use Rattle.lot_report.specs.Holdings.{IsEnd, fits, row_lines}
use Rattle.lot_report.specs.declared.fault.ReportFault.TheVariants.{Memory, Range, Write}
use Rattle.lot_report.specs.declared.fault.RowFault.TheVariants.{Report, Spent}
use Rattle.lot_report.specs.declared.holdings.ValuedHolding.{ValuedHolding}
use Rattle.lot_rows.specs.Tables.{Tables}
use Rattle.lot_store.specs.declared.walk.WalkFault.TheVariants.{Ended, Failed}
use Rattle.lot_tally.specs.declared.key.TableForm.{TableForm}
use Rattle.lot_tally.specs.declared.key.TableForm.TheVariants.{Csv, Text}
use Rattle.lot_walk.specs.Prices.{ArePrices, prices_by}
use Rattle.lot_walk.specs.declared.price.PairPrice.{PairPrice}

-- ---- what was held

-- What legs leave at the end of a day is found, where each position is in the range of units then. The book may stop that, or
-- memory.
abbrev pub FindsHeld : ℤ → List DatedLeg → Result (Vec Holding Global) ShowFault → Type 0
FindsHeld on legs (Ok rows) = AreInRange on legs × ListsHeld on legs rows.items
FindsHeld on legs (Err (AtWalk (Failed fault))) = ⊤
FindsHeld on legs (Err (AtWalk Ended)) = ⊥
FindsHeld on legs (Err (AtRow (Report Range))) = ¬ AreInRange on legs
FindsHeld on legs (Err (AtRow (Report Memory))) = ⊤
FindsHeld on legs (Err (AtRow (Report Write))) = ⊥
FindsHeld on legs (Err (AtRow Spent)) = ⊥

-- ---- the report

-- a lot is valued at the price of its commodity in the currency of its cost
abbrev pub valued_at : (List ℕ → List ℕ → Option ℕ) → Holding → ValuedHolding
valued_at price holding = record { holding = holding; valuation = valuation_at price holding.commodity holding.lot }

-- rows are written as those of the report of what a book holds, or as much of them as a fault leaves
abbrev pub ShowsRows : TableForm → Columns → List ValuedHolding → Option (List ℕ) → Option (List ℕ) → Result (Unit {0}) ShowFault → Type 0
ShowsRows Text columns rows start now result = Shows row_lines fits IsEnd rows start now result
ShowsRows Csv columns rows start now result = ShowsCsv (holdings_header columns) (record_of_holding columns) rows start now result

module _ (form : TableForm) (on : ℤ) where
  -- each position is in the range of units at the end of the day, and the rows of what was held are written
  abbrev pub WritesHeld : (List ℕ → List ℕ → Option ℕ) → List DatedLeg → Option (List ℕ) → Option (List ℕ) → Result (Unit {0}) ShowFault → Type 0
  WritesHeld price legs start now result =
      AreInRange on legs × (rows : List Holding) × ListsHeld on legs rows × ShowsRows form Values (map (valued_at price) rows) start now result

  -- They are, each lot at its price. Nothing is written where the book stops before, or a position is out of range.
  abbrev pub ShowsHeld : (List ℕ → List ℕ → Option ℕ) → List DatedLeg → Option (List ℕ) → Option (List ℕ) → Result (Unit {0}) ShowFault → Type 0
  ShowsHeld price legs start now (Ok done) = WritesHeld price legs start now (Ok done)
  ShowsHeld price legs start now (Err (AtWalk (Failed fault))) = Appends start now []
  ShowsHeld price legs start now (Err (AtWalk Ended)) = ⊥
  ShowsHeld price legs start now (Err (AtRow (Report Range))) =
      ((¬ AreInRange on legs) × Appends start now []) ⊎ WritesHeld price legs start now (Err (AtRow (Report Range)))
  ShowsHeld price legs start now (Err (AtRow (Report Write))) = WritesHeld price legs start now (Err (AtRow (Report Write)))
  ShowsHeld price legs start now (Err (AtRow (Report Memory))) = Appends start now [] ⊎ WritesHeld price legs start now (Err (AtRow (Report Memory)))
  ShowsHeld price legs start now (Err (AtRow Spent)) = ⊥

  -- the legs are those of the book, and the prices those at a day
  abbrev pub ShowsHoldingsOn : ℤ → List Entry → Option (List ℕ) → Option (List ℕ) → Result (Unit {0}) ShowFault → Type 0
  ShowsHoldingsOn day entries start now result =
      (prices : List PairPrice) × ArePrices entries day prices × ShowsHeld (listed prices) (dated_legs entries) start now result

  -- whatever the tables are, it is the report of some legs at some prices
  abbrev pub ShowsSomeHoldingsOn : Option (List ℕ) → Option (List ℕ) → Result (Unit {0}) ShowFault → Type 0
  ShowsSomeHoldingsOn start now result = (price : List ℕ → List ℕ → Option ℕ) × (legs : List DatedLeg) × ShowsHeld price legs start now result

  -- Where no fault ends it, it is that of all rows of legs, each on the day with which the text of its entry begins, at the prices
  -- that the rows of prices give.
  abbrev pub ShowsAllHoldingsOn : ℤ → Tables → Option (List ℕ) → Option (List ℕ) → Result (Unit {0}) ShowFault → Type 0
  ShowsAllHoldingsOn day tables start now result =
      OnOk result ((legs : List DatedLeg) × AreAllLegRows tt tables legs × ShowsHeld (listed (prices_by day tables.price)) legs start now result)

-- ---- what is held now

-- the report of what the book holds, at the prices of a day
abbrev pub ShowsHoldingsAt : TableForm → ℤ → List Entry → Option (List ℕ) → Option (List ℕ) → Result (Unit {0}) ShowFault → Type 0
ShowsHoldingsAt Text day entries start now result = ShowsHoldings entries (Some day) start now result
ShowsHoldingsAt Csv day entries start now result = ShowsHoldingsCsv entries (Some day) start now result

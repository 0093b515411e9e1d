-- The report of what the sales of the entries of a book behind a number of them gained (docs/FORMATS.md, Gains).
use Rattle.std.specs.Prelude.{ℕ, List, map, OnOk, Option, Result}
use Rattle.std.specs.List.{AllByRecursion}
use Rattle.lot_added.specs.Added.{AreAddedSaleRows, AreAddedSales}
use Rattle.lot_book.specs.Facts.{Entry}
use Rattle.lot_book_report.specs.Gains.{sale_in}
use Rattle.lot_book_report.specs.Show.{Shows, WritesWhole}
use Rattle.lot_book_report.specs.declared.fault.ShowFault.{ShowFault}
use Rattle.lot_report.specs.Gains.{IsEnd, fits, sale_lines}
use Rattle.lot_rows.specs.Tables.{Tables}
use Rattle.lot_walk.specs.Gains.{HasLegs}
use Rattle.lot_walk.specs.declared.gains.NumberedSale.{NumberedSale}

-- the report of all sales of these entries is written, or as much of it as its fault leaves
abbrev pub ShowsAddedGains : List Entry → ℕ → Option (List ℕ) → Option (List ℕ) → Result (Unit {0}) ShowFault → Type 0
ShowsAddedGains entries behind start now result =
    (sales : List NumberedSale) × AreAddedSales behind entries sales
    × Shows sale_lines fits IsEnd (map sale_in sales) start now result

-- Where no fault ends it, the report is that of all rows of sales of these entries, whatever the tables stand for. Each sale has
-- legs that come to its units, and the totals are those of just these sales.
abbrev pub ShowsAllAddedSales : Tables → ℕ → Option (List ℕ) → Option (List ℕ) → Result (Unit {0}) ShowFault → Type 0
ShowsAllAddedSales tables behind start now result =
    OnOk result ((sales : List NumberedSale) × AreAddedSaleRows behind tables sales × AllByRecursion HasLegs sales
    × WritesWhole sale_lines fits IsEnd (map sale_in sales) start now)

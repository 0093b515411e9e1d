-- The report of what the sales of a book gained on the days of a range (docs/FORMATS.md, Gains).
use Rattle.std.specs.Prelude.{ℕ, List, map, OnOk, Option, Result}
use Rattle.std.specs.List.{AllByRecursion}
use Rattle.lot_book.specs.Facts.{Entry}
use Rattle.lot_book.specs.Sale.{SaleParts}
use Rattle.lot_report.specs.Gains.{IsEnd, fits, sale_lines}
use Rattle.lot_rows.specs.Tables.{Tables}
use Rattle.lot_book_report.specs.Show.{Shows, ShowsSome, WritesWhole}
use Rattle.lot_book_report.specs.declared.fault.ShowFault.{ShowFault}
use Rattle.lot_walk.specs.Gains.{AreAllSaleRows, AreSalesWithin, HasLegs, Range}
use Rattle.lot_walk.specs.declared.gains.NumberedSale.{NumberedSale}

-- what the report says of a sale: all but its numbers
abbrev pub sale_in : NumberedSale → SaleParts
sale_in sold = sold.sale

-- the report of all sales of the book on those days is written, or as much of it as its fault leaves
abbrev pub ShowsGains : List Entry → Range → Option (List ℕ) → Option (List ℕ) → Result (Unit {0}) ShowFault → Type 0
ShowsGains entries range start now result =
    (sales : List NumberedSale) × AreSalesWithin range entries sales
    × Shows sale_lines fits IsEnd (map sale_in sales) start now result

-- whatever the tables are, the report of some sales is
abbrev pub ShowsSomeGains : Option (List ℕ) → Option (List ℕ) → Result (Unit {0}) ShowFault → Type 0
ShowsSomeGains start now result = ShowsSome sale_lines fits IsEnd start now result

-- Where no fault ends it, the report is that of all rows of sales on those days, whatever the tables stand for. Each sale has
-- legs that come to its units, and the totals are those of just these sales.
abbrev pub ShowsAllSales : Tables → Range → Option (List ℕ) → Option (List ℕ) → Result (Unit {0}) ShowFault → Type 0
ShowsAllSales tables range start now result =
    OnOk result ((sales : List NumberedSale) × AreAllSaleRows range tables sales × AllByRecursion HasLegs sales
    × WritesWhole sale_lines fits IsEnd (map sale_in sales) start now)

-- The report of what the sales of a book gained in all, by keys (docs/FORMATS.md, Gains by keys).
use Rattle.std.specs.Prelude.{ℕ, List, map, OnOk, Option, Result}
use Rattle.std.specs.List.{AllByRecursion}
use Rattle.lot_book.specs.Facts.{Entry}
use Rattle.lot_book.specs.Sale.{SaleParts}
use Rattle.lot_book_report.specs.Gains.{sale_in}
use Rattle.lot_book_report.specs.declared.fault.ShowFault.{ShowFault}
use Rattle.lot_rows.specs.Tables.{Tables}
use Rattle.lot_sums.specs.Gather.{ShowsTable}
use Rattle.lot_tally.specs.Table.{IsEnd, fits}
use Rattle.lot_tally.specs.declared.key.GainKey.{GainKey}
use Rattle.lot_tally.specs.declared.key.TableForm.{TableForm}
use Rattle.lot_walk.specs.Gains.{AreAllSaleRows, AreSalesWithin, HasLegs, Range}
use Rattle.lot_walk.specs.declared.gains.NumberedSale.{NumberedSale}

module _ (by : List GainKey) (form : TableForm) where
  -- the table of sales is written, or nothing, or as much of it as a fault leaves
  abbrev pub ShowsSales : List SaleParts → Option (List ℕ) → Option (List ℕ) → Result (Unit {0}) ShowFault → Type 0
  ShowsSales sales start now result = ShowsTable (fits by form) (IsEnd by form) sales start now result

  -- the sales are those of the book on those days
  abbrev pub ShowsGainsBy : List Entry → Range → Option (List ℕ) → Option (List ℕ) → Result (Unit {0}) ShowFault → Type 0
  ShowsGainsBy entries range start now result =
      (sales : List NumberedSale) × AreSalesWithin range entries sales × ShowsSales (map sale_in sales) start now result

  -- whatever the tables are, it is the table of some sales
  abbrev pub ShowsSomeGainsBy : Option (List ℕ) → Option (List ℕ) → Result (Unit {0}) ShowFault → Type 0
  ShowsSomeGainsBy start now result = (sales : List SaleParts) × ShowsSales sales start now result

  -- where no fault ends it, it is that of all rows of sales on those days, each with legs that come to its units
  abbrev pub ShowsAllSalesBy : Tables → Range → Option (List ℕ) → Option (List ℕ) → Result (Unit {0}) ShowFault → Type 0
  ShowsAllSalesBy tables range start now result =
      OnOk result ((sales : List NumberedSale) × AreAllSaleRows range tables sales × AllByRecursion HasLegs sales
      × ShowsSales (map sale_in sales) start now result)

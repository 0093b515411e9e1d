-- The lists on a page, written as they are read.
use Rattle.std.specs.Prelude.{ℕ, List, Option, Result}
use Rattle.std.specs.Io.KnownBytes.{Appends}
use Rattle.std.specs.List.{AllByRecursion}
use Rattle.lot_book.specs.Facts.{Entry}
use Rattle.lot_book_report.specs.declared.fault.ShowFault.{ShowFault}
use Rattle.lot_page_report.specs.List.{ListsRows}
use Rattle.lot_page_report.specs.Sections.{entry_piece, journal_end, journal_html, sale_piece, sales_end, sales_html}
use Rattle.lot_rows.specs.Tables.{Tables}
use Rattle.lot_stored.specs.Rows.{entry_rows}
use Rattle.lot_walk.specs.Gains.{AreAllSaleRows, AreSalesWithin, HasLegs, Range}
use Rattle.lot_walk.specs.declared.gains.NumberedSale.{NumberedSale}

-- all sales of the book on those days are listed, or as much of that as a fault leaves
abbrev pub ListsSales : Range → List Entry → Option (List ℕ) → Option (List ℕ) → Result (Unit {0}) ShowFault → Type 0
ListsSales range entries start now result =
    (sales : List NumberedSale) × AreSalesWithin range entries sales × ListsRows sale_piece sales_end sales start now result

abbrev pub ListsSalesOfTables : Range → Tables → Option (List ℕ) → Option (List ℕ) → Type 0
ListsSalesOfTables range tables start now =
    (sales : List NumberedSale) × AreAllSaleRows range tables sales × AllByRecursion HasLegs sales × Appends start now (sales_html sales)

-- all entries of the book on those days are
abbrev pub ListsEntries : Range → List Entry → Option (List ℕ) → Option (List ℕ) → Result (Unit {0}) ShowFault → Type 0
ListsEntries range entries start now result = ListsRows (entry_piece range) (journal_end range) (entry_rows 1 entries) start now result

abbrev pub ListsEntriesOfTables : Range → Tables → Option (List ℕ) → Option (List ℕ) → Type 0
ListsEntriesOfTables range tables start now = Appends start now (journal_html range tables.entry)

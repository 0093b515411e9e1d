-- How much of the page of a book is written (docs/FORMATS.md, Page).
use Rattle.std.specs.Prelude.{◌≡◌, ◌⊎◌, ℕ, List, [], ◌++◌, Option, OnOk, Result, Ok, Err, codes}
use Rattle.std.specs.Io.KnownBytes.{Appends}
use Rattle.lot_book.specs.Facts.{Entry}
use Rattle.lot_book_report.specs.declared.fault.ShowFault.{ShowFault}
use Rattle.lot_book_report.specs.declared.fault.ShowFault.TheVariants.{Row as AtRow, Walk as AtWalk}
use Rattle.lot_html.specs.Html.{IsBalanced}
use Rattle.lot_html.specs.Text.{escaped}
use Rattle.lot_page_report.specs.OutOfRange.{PageLeavesRange}
use Rattle.lot_page_report.specs.Parts.{ArePartsOf, AreRowsOf, PageOf, Parts, days_of}
use Rattle.lot_page_report.specs.Sections.{IsTextOf, IsTop, entry_piece, pieces_behind, sale_piece, sales_html}
use Rattle.lot_page_report.specs.Text.{part_front, style}
use Rattle.lot_report.specs.declared.fault.ReportFault.TheVariants.{Range}
use Rattle.lot_report.specs.declared.fault.RowFault.TheVariants.{Report}
use Rattle.lot_rows.specs.Tables.{Tables}
use Rattle.lot_rows.specs.declared.entry.EntryRow.{EntryRow}
use Rattle.lot_walk.specs.declared.gains.NumberedSale.{NumberedSale}

abbrev pub doctype : List ℕ
doctype = codes "<!DOCTYPE html>\n"

-- A page has the text of its parts. Behind its first line it is elements and text and nothing else. Its style has no markup in it.
pub record IsPageText (page : PageOf) (parts : Parts) (text : List ℕ) : Type 0 where
  pub elements : List ℕ
  pub balanced : IsBalanced elements
  pub begins : text ≡ doctype ++ elements
  pub whole : IsTextOf page parts elements
  pub styled : escaped style ≡ style

-- what is written of a page ends before it, or behind a whole piece of it
pub data StopsAtPiece (page : PageOf) (parts : Parts) (part : List ℕ) : Type 0 where
  -- nothing of it is written
  AtStart : part ≡ [] → StopsAtPiece page parts part
  -- its top is, and some first sales, each whole
  AtSale : (top : List ℕ) → IsTop page parts top → (given rest : List NumberedSale) → parts.sales ≡ given ++ rest
      → part ≡ doctype ++ (top ++ pieces_behind sale_piece [] given) → StopsAtPiece page parts part
  -- its top, all sales, the head of the journal, and some first entries, each whole
  AtEntry : (top : List ℕ) → IsTop page parts top → (given rest : List EntryRow) → parts.listed ≡ given ++ rest
      → part ≡ doctype ++ (top ++ (sales_html parts.sales
      ++ (part_front (codes "journal") (codes "Journal") ++ pieces_behind (entry_piece (days_of page)) [] given)))
      → StopsAtPiece page parts part

-- Where the book stops, or memory ends, it is so. The writer may fail anywhere.
abbrev pub MayStopAt : PageOf → Parts → List ℕ → ShowFault → Type 0
MayStopAt page parts part (AtWalk fault) = StopsAtPiece page parts part
MayStopAt page parts part (AtRow fault) = Unit {0}

-- A whole page is written. Where a fault ends it, a prefix of a page is, and no piece is cut but by the writer.
abbrev pub ShowsText : PageOf → Parts → Option (List ℕ) → Option (List ℕ) → Result (Unit {0}) ShowFault → Type 0
ShowsText page parts start now (Ok done) = (text : List ℕ) × IsPageText page parts text × Appends start now text
ShowsText page parts start now (Err fault) =
    (part : List ℕ) × (rest : List ℕ) × IsPageText page parts (part ++ rest) × MayStopAt page parts part fault × Appends start now part

-- the page of the book with these entries and that place of migration, or a prefix of it
abbrev pub ShowsPageOf : PageOf → ℕ → List Entry → Option (List ℕ) → Option (List ℕ) → Result (Unit {0}) ShowFault → Type 0
ShowsPageOf page place entries start now result =
    (parts : Parts) × ArePartsOf page place entries parts × ShowsText page parts start now result

-- It is written whole. A fault leaves a prefix of it, or, where not all is added up yet, nothing.
abbrev pub WritesPage : PageOf → ℕ → List Entry → Option (List ℕ) → Option (List ℕ) → Result (Unit {0}) ShowFault → Type 0
WritesPage page place entries start now (Ok done) = ShowsPageOf page place entries start now (Ok done)
WritesPage page place entries start now (Err fault) = Appends start now [] ⊎ ShowsPageOf page place entries start now (Err fault)

-- A sum is told to leave its range only where one of the book does, and then nothing is written.
abbrev pub ShowsPage : PageOf → ℕ → List Entry → Option (List ℕ) → Option (List ℕ) → Result (Unit {0}) ShowFault → Type 0
ShowsPage page place entries start now result =
    WritesPage page place entries start now result
    × (result ≡ Err (AtRow (Report Range)) → PageLeavesRange page entries × Appends start now [])

-- whatever the tables are, it is some page
abbrev pub WritesSomePage : PageOf → Option (List ℕ) → Option (List ℕ) → Result (Unit {0}) ShowFault → Type 0
WritesSomePage page start now result = (parts : Parts) × ShowsText page parts start now result

-- where a sum is told to leave its range, nothing is written
abbrev pub ShowsSomePage : PageOf → Option (List ℕ) → Option (List ℕ) → Result (Unit {0}) ShowFault → Type 0
ShowsSomePage page start now result = WritesSomePage page start now result × (result ≡ Err (AtRow (Report Range)) → Appends start now [])

-- where no fault ends it, it is that of all rows of the tables
abbrev pub ShowsPageOfTables : PageOf → Tables → Option (List ℕ) → Option (List ℕ) → Result (Unit {0}) ShowFault → Type 0
ShowsPageOfTables page tables start now result =
    OnOk result ((parts : Parts) × AreRowsOf page tables parts × ShowsText page parts start now result)

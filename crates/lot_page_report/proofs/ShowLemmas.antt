-- Lists of a page that are written as the book is read.
use Rattle.std.specs.Prelude.{OnOk, Result, Ok, Err}
use Rattle.std.specs.Io.KnownBytes.{Appends}
use Rattle.std.specs.List.{AllByRecursion}
use Rattle.std.proofs.Common.{◌≡◌, ◌∙◌, ℕ, List, Option, map, refl, sym, subst}
use Rattle.std.proofs.lemmas.List.{map-id}
use Rattle.lot_book.specs.Facts.{Entry}
use Rattle.lot_book_report.specs.Csv.{AreGood}
use Rattle.lot_book_report.specs.declared.fault.ShowFault.{ShowFault}
use Rattle.lot_rows.specs.Tables.{Tables}
use Rattle.lot_rows.specs.declared.entry.EntryRow.{EntryRow}
use Rattle.lot_stored.specs.Rows.{entry_rows}
use Rattle.lot_walk.specs.Gains.{AreAllSaleRows, AreSalesWithin, HasLegs, Range}
use Rattle.lot_walk.specs.Journal.{AreAllEntryRows, AreEntries}
use Rattle.lot_walk.specs.declared.gains.NumberedSale.{NumberedSale}
use Rattle.lot_page_report.specs.List.{ListsRows, list_text}
use Rattle.lot_page_report.specs.Sections.{entry_piece, journal_end, sale_piece, sales_end}
use Rattle.lot_page_report.specs.Shown.{ListsEntries, ListsEntriesOfTables, ListsSales, ListsSalesOfTables}

-- rows are told as they are
told : {Row : Type 0} (piece : List Row → Row → List ℕ) (end_of : List Row → List ℕ) (start now : Option (List ℕ)) (all rows : List Row)
    (result : Result (Unit {0}) ShowFault) → all ≡ rows → ListsRows piece end_of (map (λ (row : Row). row) all) start now result
    → ListsRows piece end_of rows start now result
told {Row} piece end_of start now all rows result are lists =
    subst (λ (r : List Row). ListsRows piece end_of r start now result) (map-id all ∙ are) lists

module _ (range : Range) (start now : Option (List ℕ)) where
  pub sales_listed : (entries : List Entry) (result : Result (Unit {0}) ShowFault)
      → ((all : List NumberedSale) × AreSalesWithin range entries all
      × ListsRows sale_piece sales_end (map (λ (sold : NumberedSale). sold) all) start now result)
      → ListsSales range entries start now result
  sales_listed entries result (all, are, lists) = (all, are, told sale_piece sales_end start now all all result refl lists)

  pub sale_rows_listed : (tables : Tables) (result : Result (Unit {0}) ShowFault)
      → OnOk result ((all : List NumberedSale) × AreAllSaleRows range tables all × AreGood (λ (sold : NumberedSale). sold) HasLegs all
      × Appends start now (list_text sale_piece sales_end (map (λ (sold : NumberedSale). sold) all)))
      → OnOk result (ListsSalesOfTables range tables start now)
  sale_rows_listed tables (Ok done) (all, are, (values, is, good), appends) = (
    all,
    are,
    subst (AllByRecursion HasLegs) (sym (is ∙ map-id values)) good,
    subst (λ (r : List NumberedSale). Appends start now (list_text sale_piece sales_end r)) (map-id all) appends,
  )
  sale_rows_listed tables (Err fault) lists = tt

  pub entries_listed : (entries : List Entry) (result : Result (Unit {0}) ShowFault)
      → ((all : List EntryRow) × AreEntries tt entries all
      × ListsRows (entry_piece range) (journal_end range) (map (λ (row : EntryRow). row) all) start now result)
      → ListsEntries range entries start now result
  entries_listed entries result (all, are, lists) =
      told (entry_piece range) (journal_end range) start now all (entry_rows 1 entries) result are lists

  pub entry_rows_listed : (Good : List EntryRow → Type 0) (tables : Tables) (result : Result (Unit {0}) ShowFault)
      → OnOk result ((all : List EntryRow) × AreAllEntryRows tt tables all × Good all
      × Appends start now (list_text (entry_piece range) (journal_end range) (map (λ (row : EntryRow). row) all)))
      → OnOk result (ListsEntriesOfTables range tables start now)
  entry_rows_listed Good tables (Ok done) (all, are, good, appends) =
      told (entry_piece range) (journal_end range) start now all tables.entry (Ok done) are appends
  entry_rows_listed Good tables (Err fault) lists = tt

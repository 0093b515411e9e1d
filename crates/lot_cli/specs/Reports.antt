-- A report of the book that is there: what is written, and what is left (docs/RULES.md, The program).
use Rattle.std.specs.Prelude.{◌≡◌, ◌≢◌, ◌⊎◌, ℕ, Bool, true, false, List, [], ◌++◌, None, OnOk, Option, Result, Ok, Err, codes, option_map, String, ℤ}
use Rattle.std.specs.Io.KnownBytes.{Appends, Keeps}
use Rattle.std.specs.String.{string_bytes}
use Rattle.sqlite.specs.State.{HasCleanDisk, State, Survives}
use Rattle.lot_book.specs.Facts.{Entry}
use Rattle.lot_stream.specs.Status.{code_of}
use Rattle.lot_stream.specs.declared.status.Status.{Status}
use Rattle.lot_stream.specs.declared.status.Status.TheVariants.{Accepted, Stopped}
use Rattle.lot_stored.specs.Rows.{entry_rows}
use Rattle.lot_stored.specs.StandFor.{Stands}
use Rattle.lot_page.specs.Cursor.{Stays}
use Rattle.lot_io.specs.Writes.{AllFlushed, HasFailed, WriteCalls, WritesMade}
use Rattle.lot_report.specs.Printed.{line}
use Rattle.lot_rows.specs.Tables.{Has, Tables}
use Rattle.lot_cli.specs.Runs.{IsLeft}
use Rattle.lot_store.specs.Create.{IsTaken}
use Rattle.lot_cli.specs.Says.{Halts, Says, Told}
use Rattle.lot_cli.specs.declared.halt.Halt.TheVariants as halt
use Rattle.lot_args.specs.declared.action.Format.TheVariants.{Csv, Text}
use Rattle.lot_args.specs.declared.action.Report.{Report}
use Rattle.lot_args.specs.declared.action.Report.TheVariants.{Holdings, HoldingsOn, Gains, GainsBy, AddedGains, Register, Activity, Journal, Page, Dump}
use Rattle.lot_book_report.specs.Csv.{ShowsAllHoldingsCsv, ShowsAllSalesCsv, ShowsGainsCsv, ShowsHoldingsCsv, ShowsSomeGainsCsv, ShowsSomeHoldingsCsv}
use Rattle.lot_book_report.specs.Dump.{ShowsDump, ShowsDumpOfTables, ShowsSomeDump, digest_line, digest_of}
use Rattle.lot_book_report.specs.declared.digest.BookDigest.{BookDigest}
use Rattle.lot_book_report.specs.Fault.{HasCause, fault_name, is_of_writer}
use Rattle.lot_book_report.specs.Gains.{ShowsAllSales, ShowsGains, ShowsSomeGains}
use Rattle.lot_activity.specs.Scope.{Asked}
use Rattle.lot_added_report.specs.Show.{ShowsAddedGains, ShowsAllAddedSales}
use Rattle.lot_activity.specs.Table.{Terms, terms_with}
use Rattle.lot_noted.specs.Book.{Asked as AskedLegs, register_legs}
use Rattle.lot_args.specs.declared.action.Saying.{Saying}
use Rattle.lot_args.specs.declared.action.Saying.TheVariants as saying
use Rattle.lot_page_report.specs.Page.{ShowsPage, ShowsPageOfTables, ShowsSomePage}
use Rattle.lot_page_report.specs.Parts.{PageOf}
use Rattle.lot_page_report.specs.declared.scope.Heading.{Heading}
use Rattle.lot_page_report.specs.declared.scope.Heading.TheVariants as heading
use Rattle.lot_period.specs.declared.period.PeriodLength.{PeriodLength}
use Rattle.lot_register_report.specs.Show.{ShowsAllLegs, ShowsRegister, ShowsSomeRegister}
use Rattle.lot_sums.specs.Activity.{ShowsActivity, ShowsAllActivity, ShowsSomeActivity}
use Rattle.lot_sums.specs.GainsBy.{ShowsAllSalesBy, ShowsGainsBy, ShowsSomeGainsBy}
use Rattle.lot_sums.specs.Held.{ShowsAllHoldingsOn, ShowsHoldingsOn, ShowsSomeHoldingsOn}
use Rattle.lot_tally.specs.declared.key.TableForm.{TableForm}
use Rattle.lot_tally.specs.declared.key.TableForm.TheVariants as form
use Rattle.lot_args.specs.declared.action.Format.{Format}
use Rattle.lot_book_report.specs.Holdings.{ShowsAllHoldings, ShowsHoldings, ShowsSomeHoldings}
use Rattle.lot_book_report.specs.Journal.{ShowsAllEntries, ShowsJournal, ShowsSomeJournal}
use Rattle.lot_book_report.specs.Show.{UnlessStopped}
use Rattle.lot_book_report.specs.declared.fault.ShowFault.{ShowFault}
use Rattle.lot_book_report.specs.declared.fault.ShowFault.TheVariants.{Row as AtRow, Walk as AtWalk}
use Rattle.lot_report.specs.Written.{AppendsPrefix}
use Rattle.lot_report.specs.declared.fault.ReportFault.TheVariants as report
use Rattle.lot_report.specs.declared.fault.RowFault.TheVariants.{Report as OfReport, Spent}
use Rattle.lot_rows.specs.declared.entry.EntryRow.{EntryRow}
use Rattle.lot_store.specs.Extent.{IsExtent, extent_of}
use Rattle.lot_store.specs.declared.extent.Extent.{Extent}
use Rattle.lot_store.specs.Step.{LeavesTables}
use Rattle.lot_store.specs.declared.fault.AdoptFault.{AdoptFault}
use Rattle.lot_store.specs.declared.fault.StoreFault.TheVariants.{Damaged, Device, InDoubt, NeedsReopen}
use Rattle.lot_store.specs.declared.walk.WalkFault.TheVariants.{Ended, Failed}
use Rattle.lot_table.specs.Statement.{DiskFailed}
use Rattle.lot_walk.specs.Gains.{Range}

-- ---- the end of a report

-- the line that reports why a report ends before its end
abbrev pub report_line : ShowFault → List ℕ
report_line fault = line (codes "fault " ++ fault_name fault)

-- what follows what was written of a report: nothing where the writer failed; else a line that reports the fault
abbrev pub ConcludesFault : Bool → ShowFault → Option (List ℕ) → Option (List ℕ) → WritesMade → ℕ → Type 0
ConcludesFault true fault shown written calls status = Keeps shown written × (status ≡ code_of Stopped) × HasFailed calls.after
ConcludesFault false fault shown written calls status = Says (report_line fault) Stopped shown written calls status

-- the same of any report: nothing follows a whole one, which is flushed and ends so, or a call of the writer failed
abbrev pub Concludes : Status → Result (Unit {0}) ShowFault → Option (List ℕ) → Option (List ℕ) → WritesMade → ℕ → Type 0
Concludes whole (Ok done) shown written calls status =
    Keeps shown written × (((status ≡ code_of whole) × AllFlushed calls) ⊎ ((status ≡ code_of Stopped) × HasFailed calls.after))
Concludes whole (Err fault) shown written calls status = ConcludesFault (is_of_writer fault) fault shown written calls status

-- ---- the book

-- The book is read for a report, which changes nothing: which faults end that, when, and what they leave. While the
-- connection is open the tables and the last commit are as they were, and a crash leaves no more than before.
pub record IsRead (old new : State) (shown : Result (Unit {0}) ShowFault) : Type 0 where
  pub device : HasCleanDisk new → shown ≡ Err (AtWalk (Failed Device)) → DiskFailed old new
  -- damage is found only where the tables stand for no book
  pub damaged : HasCleanDisk new → shown ≡ Err (AtWalk (Failed Damaged)) → (entries : List Entry) → ¬ Stands old entries
  pub reopened : shown ≢ Err (AtWalk (Failed NeedsReopen))
  pub sure : shown ≢ Err (AtWalk (Failed InDoubt))
  pub going : shown ≢ Err (AtWalk Ended)
  pub unspent : shown ≢ Err (AtRow Spent)
  pub same : HasCleanDisk new → UnlessStopped shown (Stays old new)
  pub left : HasCleanDisk new → LeavesTables old new
  pub crash : Survives old new (λ _. ⊥)

-- ---- a digest

abbrev pub verified_line : List ℕ
verified_line = line (codes "book verified")

-- what is written of a verified book whose dump ends so
abbrev pub digest_text : BookDigest → List ℕ
digest_text digest = verified_line ++ digest_line digest

-- Where the book stops, nothing is written. Where the writer fails, a prefix of the text is, but not all of it.
abbrev pub ShowsDigest : BookDigest → Option (List ℕ) → Option (List ℕ) → Result (Unit {0}) ShowFault → Type 0
ShowsDigest digest start now (Ok done) = Appends start now (digest_text digest)
ShowsDigest digest start now (Err (AtWalk (Failed fault))) = Appends start now []
ShowsDigest digest start now (Err (AtWalk Ended)) = ⊥
ShowsDigest digest start now (Err (AtRow (OfReport report.Write))) = AppendsPrefix start now (digest_text digest)
ShowsDigest digest start now (Err (AtRow (OfReport report.Range))) = ⊥
ShowsDigest digest start now (Err (AtRow (OfReport report.Memory))) = ⊥
ShowsDigest digest start now (Err (AtRow Spent)) = ⊥

-- whatever the tables are, it is that of some extent and some entries
abbrev pub ShowsSomeDigest : Option (List ℕ) → Option (List ℕ) → Result (Unit {0}) ShowFault → Type 0
ShowsSomeDigest start now result =
    (extent : Extent) × (rows : List EntryRow) × ShowsDigest (digest_of extent rows) start now result

-- where no fault ends it, it is that of all rows of the table, and of what the tables say of their extent
abbrev pub ShowsDigestOfTables : Tables → Option (List ℕ) → Option (List ℕ) → Result (Unit {0}) ShowFault → Type 0
ShowsDigestOfTables tables start now result =
    OnOk result ((extent : Extent) × IsExtent extent tables
    × Appends start now (digest_text (digest_of extent tables.entry)))

-- ---- a report

-- the form of a table in that format
abbrev pub form_of : Format → TableForm
form_of Text = form.Text
form_of Csv = form.Csv

-- which legs a report of activity is over, and its terms
abbrev pub asked_for : {A : Type 0} → Option (String A) → Option ℤ → Option ℤ → Asked
asked_for account first last = record { account = option_map string_bytes account; days = (first, last) }

abbrev pub terms_for : {A : Type 0} → Option (String A) → PeriodLength → Option ℤ → Option ℤ → Format → Terms
terms_for account length first last format = terms_with length (asked_for account first last) (form_of format)

-- which legs a register is over
abbrev pub legs_for : {A : Type 0} → String A → Option (List ℕ) → Option ℤ → AskedLegs
legs_for account commodity last = record { account = string_bytes account; commodity = commodity; last = last }

-- what is said at the head of a page
abbrev pub heading_for : Saying → Heading
heading_for saying.Verified = heading.Entries
heading_for saying.Digest = heading.Digest

-- what a page is of
abbrev pub page_for : {A : Type 0} → String A → Option ℤ → Option ℤ → Option ℤ → Saying → PageOf
page_for name first last day asked =
    record { name = string_bytes name; first = first; last = last; day = day; heading = heading_for asked }

-- what is written for a book: of the book with these entries and that place of migration; of some rows, whatever the tables are;
-- and of all rows of the tables, where no fault ends it; and with which status a whole one ends
pub record Writing : Type 1 where
  pub of_book : ℕ → List Entry → Option (List ℕ) → Option (List ℕ) → Result (Unit {0}) ShowFault → Type 0
  pub some : Option (List ℕ) → Option (List ℕ) → Result (Unit {0}) ShowFault → Type 0
  pub rows : Tables → Option (List ℕ) → Option (List ℕ) → Result (Unit {0}) ShowFault → Type 0
  pub whole : Status

-- What is written of what a book with these entries holds, with what its lots are worth on a day, in a format; whatever the tables
-- are, of some holdings; and, where no fault ends it, of all rows of the tables.
abbrev pub ShowsHoldingsAs : Format → Option ℤ → List Entry → Option (List ℕ) → Option (List ℕ) → Result (Unit {0}) ShowFault → Type 0
ShowsHoldingsAs Text day entries = ShowsHoldings entries day
ShowsHoldingsAs Csv day entries = ShowsHoldingsCsv entries day

abbrev pub ShowsSomeHoldingsAs : Format → Option ℤ → Option (List ℕ) → Option (List ℕ) → Result (Unit {0}) ShowFault → Type 0
ShowsSomeHoldingsAs Text day = ShowsSomeHoldings
ShowsSomeHoldingsAs Csv day = ShowsSomeHoldingsCsv day

abbrev pub ShowsAllHoldingsAs : Format → Option ℤ → Tables → Option (List ℕ) → Option (List ℕ) → Result (Unit {0}) ShowFault → Type 0
ShowsAllHoldingsAs Text day tables = ShowsAllHoldings tables day
ShowsAllHoldingsAs Csv day tables = ShowsAllHoldingsCsv tables day

-- the same of what its sales gained from the first to the last day, both included
abbrev pub ShowsGainsAs : Format → Range → List Entry → Option (List ℕ) → Option (List ℕ) → Result (Unit {0}) ShowFault → Type 0
ShowsGainsAs Text range entries = ShowsGains entries range
ShowsGainsAs Csv range entries = ShowsGainsCsv entries range

abbrev pub ShowsSomeGainsAs : Format → Option (List ℕ) → Option (List ℕ) → Result (Unit {0}) ShowFault → Type 0
ShowsSomeGainsAs Text = ShowsSomeGains
ShowsSomeGainsAs Csv = ShowsSomeGainsCsv

abbrev pub ShowsAllGainsAs : Format → Range → Tables → Option (List ℕ) → Option (List ℕ) → Result (Unit {0}) ShowFault → Type 0
ShowsAllGainsAs Text range tables = ShowsAllSales tables range
ShowsAllGainsAs Csv range tables = ShowsAllSalesCsv tables range

-- How much of a report of a book with these entries and that place of migration is written. The report is of what it holds, or held
-- at the end of a day, with what its lots are worth on a day; of what its sales gained from the first to the last day, both
-- included, or of the sums of that by keys; of what the sales of the entries behind a number gained; of the legs of accounts on such
-- days; of what went into accounts and out of them on such days, by period; or of its entries, as a journal or as a dump; or it is the
-- page of all of these. All but the page are as text, and all but that of the entries behind a number and the last three also as
-- CSV. The dump and the page alone say the place.
abbrev pub ShowsReport : Report → ℕ → List Entry → Option (List ℕ) → Option (List ℕ) → Result (Unit {0}) ShowFault → Type 0
ShowsReport (Holdings day format) place entries = ShowsHoldingsAs format day entries
ShowsReport (HoldingsOn on day format) place entries = ShowsHoldingsOn (form_of format) on day entries
ShowsReport (Gains first last format) place entries = ShowsGainsAs format (first, last) entries
ShowsReport (GainsBy first last by format) place entries = ShowsGainsBy by.items (form_of format) entries (first, last)
ShowsReport (AddedGains behind) place entries = ShowsAddedGains entries behind
ShowsReport (Register account commodity first last format) place entries =
    ShowsRegister (form_of format, first) (register_legs (legs_for account commodity last) entries)
ShowsReport (Activity account length first last format) place entries = ShowsActivity (terms_for account length first last format) entries
ShowsReport Journal place entries = ShowsJournal (entry_rows 1 entries)
ShowsReport (Page name first last day saying) place entries = ShowsPage (page_for name first last day saying) place entries
ShowsReport Dump place entries = ShowsDump (extent_of place entries) (entry_rows 1 entries)

-- whatever the tables are, the report of some rows is written, or as much of it as its fault leaves
abbrev pub ShowsSome : Report → Option (List ℕ) → Option (List ℕ) → Result (Unit {0}) ShowFault → Type 0
ShowsSome (Holdings day format) = ShowsSomeHoldingsAs format day
ShowsSome (HoldingsOn on day format) = ShowsSomeHoldingsOn (form_of format) on
ShowsSome (Gains first last format) = ShowsSomeGainsAs format
ShowsSome (GainsBy first last by format) = ShowsSomeGainsBy by.items (form_of format)
ShowsSome (AddedGains behind) = ShowsSomeGains
ShowsSome (Register account commodity first last format) = ShowsSomeRegister (form_of format, first)
ShowsSome (Activity account length first last format) = ShowsSomeActivity (terms_for account length first last format)
ShowsSome Journal = ShowsSomeJournal
ShowsSome (Page name first last day saying) = ShowsSomePage (page_for name first last day saying)
ShowsSome Dump = ShowsSomeDump

-- Where no fault ends it, the report is that of all rows of its tables, whatever these stand for. The rows are those of plain
-- units and of lots, of legs up to a day, of the sales on the days of the range, of the legs, or of the entries.
abbrev pub ShowsAllRows : Report → Tables → Option (List ℕ) → Option (List ℕ) → Result (Unit {0}) ShowFault → Type 0
ShowsAllRows (Holdings day format) tables = ShowsAllHoldingsAs format day tables
ShowsAllRows (HoldingsOn on day format) tables = ShowsAllHoldingsOn (form_of format) on day tables
ShowsAllRows (Gains first last format) tables = ShowsAllGainsAs format (first, last) tables
ShowsAllRows (GainsBy first last by format) tables = ShowsAllSalesBy by.items (form_of format) tables (first, last)
ShowsAllRows (AddedGains behind) tables = ShowsAllAddedSales tables behind
ShowsAllRows (Register account commodity first last format) tables =
    ShowsAllLegs (form_of format, first) (legs_for account commodity last) tables
ShowsAllRows (Activity account length first last format) tables = ShowsAllActivity (terms_for account length first last format) tables
ShowsAllRows Journal tables = ShowsAllEntries tables
ShowsAllRows (Page name first last day saying) tables = ShowsPageOfTables (page_for name first last day saying) tables
ShowsAllRows Dump tables = ShowsDumpOfTables tables

-- what is written for a report
abbrev pub written_for : Report → Writing
written_for report = record { of_book = ShowsReport report; some = ShowsSome report; rows = ShowsAllRows report; whole = Accepted }

-- what is written beside that a book is verified: the digest of its dump, which says the place of migration
abbrev pub digest_writing : Writing
digest_writing = record {
  of_book = λ place entries. ShowsDigest (digest_of (extent_of place entries) (entry_rows 1 entries));
  some = ShowsSomeDigest;
  rows = ShowsDigestOfTables;
  whole = Accepted;
}

-- a report of a book is written, as far as its fault lets it, and concluded with that status
pub record ShowsBook (writing : Writing) (old new : State) (before written : Option (List ℕ)) (calls : WritesMade) (status : ℕ) : Type 0 where
  pub shown : Result (Unit {0}) ShowFault
  pub mid : Option (List ℕ)
  pub between : Option WriteCalls
  pub read : IsRead old new shown
  pub of_book : HasCleanDisk new → (entries : List Entry) (stands : Stands old entries)
      → writing.of_book stands.stand.place entries before mid shown
  pub some : writing.some before mid shown
  pub rows : HasCleanDisk new → (tables : Tables) → Has old tables → writing.rows tables before mid shown
  pub cause : HasCause shown (record { before = calls.before; after = between })
  pub concludes : Concludes writing.whole shown mid written (record { before = between; after = calls.after }) status

-- a report of the book that is there is written; or the database isn't taken up
abbrev pub Reports : Writing → State → State → Option (List ℕ) → Option (List ℕ) → WritesMade → Told
    → Type 0
Reports writing old new before written calls told =
    ((HasCleanDisk new → IsTaken old) × ShowsBook writing old new before written calls told.status × (told.halt ≡ None))
    ⊎ ((fault : AdoptFault) × IsLeft old new fault × Halts (halt.Adopt fault) before written calls told)

-- A dump of a book: a text from which the same book can be made again (docs/FORMATS.md, Dump). It has the journal between
-- a line that says how far the book goes and one with the digest of all before it.
use Rattle.std.specs.Prelude.{◌≡◌, ◌⊎◌, ℕ, IfOk, List, [], ◌++◌, OnOk, Option, Result, Ok, Err, codes, decimal}
use Rattle.std.specs.Io.KnownBytes.{Appends}
use Rattle.hex.specs.Hex.{encode_lower}
use Rattle.sha2.specs.Sha256.{sha256}
use Rattle.sqlite.specs.Held.{state}
use Rattle.sqlite.specs.State.{HasCleanDisk}
use Rattle.sqlite.specs.Store.{Ghosts}
use Rattle.lot_book.specs.Facts.{Entry}
use Rattle.lot_stored.specs.StandFor.{Stands}
use Rattle.lot_report.specs.Printed.{line}
use Rattle.lot_report.specs.Written.{AppendsPrefix}
use Rattle.lot_report.specs.declared.fault.ReportFault.TheVariants as report
use Rattle.lot_report.specs.declared.fault.RowFault.TheVariants.{Report, Spent}
use Rattle.lot_rows.specs.Tables.{Tables}
use Rattle.lot_rows.specs.declared.entry.EntryRow.{EntryRow}
use Rattle.lot_book_report.specs.Journal.{journal_text}
use Rattle.lot_book_report.specs.declared.digest.BookDigest.{BookDigest}
use Rattle.lot_book_report.specs.declared.fault.ShowFault.{ShowFault}
use Rattle.lot_book_report.specs.declared.fault.ShowFault.TheVariants.{Row as AtRow, Walk as AtWalk}
use Rattle.lot_store.specs.Extent.{IsExtent}
use Rattle.lot_store.specs.declared.book.Book.{Book}
use Rattle.lot_store.specs.declared.extent.Extent.{Extent}
use Rattle.lot_store.specs.declared.walk.WalkFault.TheVariants.{Ended, Failed}

-- ---- the text

-- the first line
abbrev pub dump_head : Extent → List ℕ
dump_head extent =
    line (codes "; lotbook dump 1 edition 2 migrated " ++ decimal extent.place ++ codes " entries " ++ decimal extent.entries)

-- all but the last line
abbrev pub dump_body : Extent → List EntryRow → List ℕ
dump_body extent rows = dump_head extent ++ journal_text rows

-- how many entries there are, and the digest of all but the last line
abbrev pub digest_of : Extent → List EntryRow → BookDigest
digest_of extent rows = record { entries = extent.entries; sha256 = sha256 (dump_body extent rows) }

abbrev pub digest_line : BookDigest → List ℕ
digest_line digest = line (decimal digest.entries ++ codes " sha256 " ++ encode_lower digest.sha256)

-- the last line
abbrev pub dump_end : BookDigest → List ℕ
dump_end digest = codes "; end " ++ digest_line digest

abbrev pub dump_text : Extent → List EntryRow → List ℕ
dump_text extent rows = dump_body extent rows ++ dump_end (digest_of extent rows)

-- ---- how much of it is written

-- Where the book stops the dump, the first line and the entries before are written, or nothing. Where the writer fails, a prefix
-- of the text is, but not all of it.
abbrev pub EndsDump : Extent → List EntryRow → List ℕ → Option (List ℕ) → Option (List ℕ) → ShowFault → Type 0
EndsDump extent rows text start now (AtWalk (Failed fault)) =
    Appends start now []
    ⊎ ((given : List EntryRow) × (rest : List EntryRow) × (rows ≡ given ++ rest)
    × Appends start now (dump_body extent given))
EndsDump extent rows text start now (AtWalk Ended) = ⊥
EndsDump extent rows text start now (AtRow (Report report.Write)) = AppendsPrefix start now text
EndsDump extent rows text start now (AtRow (Report report.Range)) = ⊥
EndsDump extent rows text start now (AtRow (Report report.Memory)) = ⊥
EndsDump extent rows text start now (AtRow Spent) = ⊥

abbrev pub ShowsDump : Extent → List EntryRow → Option (List ℕ) → Option (List ℕ) → Result (Unit {0}) ShowFault → Type 0
ShowsDump extent rows start now (Ok done) = Appends start now (dump_text extent rows)
ShowsDump extent rows start now (Err fault) = EndsDump extent rows (dump_text extent rows) start now fault

-- all but the last line is written, and this is its digest
abbrev pub ShowsBody : Extent → List EntryRow → Option (List ℕ) → Option (List ℕ) → Result BookDigest ShowFault → Type 0
ShowsBody extent rows start now (Ok digest) =
    Appends start now (dump_body extent rows) × (digest ≡ digest_of extent rows)
ShowsBody extent rows start now (Err fault) = EndsDump extent rows (dump_body extent rows) start now fault

-- ---- which dump that is

-- what holds of the book whose entries the tables stand for, and of its place of migration
pub record HoldsOfPlacedBook {S : Type 0} (g : Ghosts S) (old new : Book S g) (Fact : ℕ → List Entry → Type 0) : Type 0 where
  pub holds : HasCleanDisk (state g new.conn) → (entries : List Entry) (stands : Stands (state g old.conn) entries)
      → Fact stands.stand.place entries

-- whatever the tables are, the dump is that of some extent and some entries, or as much of it as its fault leaves
abbrev pub ShowsSomeDump : Option (List ℕ) → Option (List ℕ) → Result (Unit {0}) ShowFault → Type 0
ShowsSomeDump start now result = (extent : Extent) × (rows : List EntryRow) × ShowsDump extent rows start now result

abbrev pub ShowsSomeBody : Option (List ℕ) → Option (List ℕ) → Result BookDigest ShowFault → Type 0
ShowsSomeBody start now result = (extent : Extent) × (rows : List EntryRow) × ShowsBody extent rows start now result

-- where no fault ends it, it is that of all rows of the table, and of what the tables say of their extent
abbrev pub ShowsDumpOfTables : Tables → Option (List ℕ) → Option (List ℕ) → Result (Unit {0}) ShowFault → Type 0
ShowsDumpOfTables tables start now result =
    OnOk result ((extent : Extent) × IsExtent extent tables × Appends start now (dump_text extent tables.entry))

abbrev pub ShowsBodyOfTables : Tables → Option (List ℕ) → Option (List ℕ) → Result BookDigest ShowFault → Type 0
ShowsBodyOfTables tables start now result =
    IfOk result (λ digest. (extent : Extent) × IsExtent extent tables × Appends start now (dump_body extent tables.entry)
    × (digest ≡ digest_of extent tables.entry))

-- ---- the digest alone

abbrev pub IsSomeDigest : Result BookDigest ShowFault → Type 0
IsSomeDigest result = IfOk result (λ digest. (extent : Extent) × (rows : List EntryRow) × (digest ≡ digest_of extent rows))

abbrev pub IsDigestOfTables : Tables → Result BookDigest ShowFault → Type 0
IsDigestOfTables tables result =
    IfOk result (λ digest. (extent : Extent) × IsExtent extent tables × (digest ≡ digest_of extent tables.entry))

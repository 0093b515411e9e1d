-- The dump that is written of a book (docs/FORMATS.md, Dump).
use Rattle.std.specs.Prelude.{◌⊎◌, ℕ, IsTrue, List, Option}
use Rattle.sqlite.specs.State.{HasCleanDisk, State}
use Rattle.lot_book.specs.Facts.{Entry}
use Rattle.lot_book_report.specs.Dump.{digest_of}
use Rattle.lot_dump.specs.declared.end.End.{End}
use Rattle.lot_input.specs.Input.{Reading}
use Rattle.lot_parts.specs.Dump.{Dump}
use Rattle.lot_io.specs.Writes.{WritesMade}
use Rattle.lot_restore.specs.DumpOfBook.{IsGivenBack, MayEndSo, dump_of_book}
use Rattle.lot_restore.specs.Restoring.{Terms}
use Rattle.lot_restore.specs.declared.fault.RestoreFault.{RestoreFault}
use Rattle.lot_store.specs.Extent.{extent_of}
use Rattle.lot_stored.specs.Rows.{entry_rows}
use Rattle.lot_cli.specs.Restore.{IsNotRestored, IsRestored}
use Rattle.lot_cli.specs.Says.{Told}

-- how many entries there are, and the digest of all above
abbrev pub book_end : ℕ → List Entry → End
book_end place entries =
    let digest = digest_of (extent_of place entries) (entry_rows 1 entries) in
    record { entries = digest.entries; digest = digest.sha256 }

abbrev pub book_dump : ℕ → List Entry → Dump
book_dump place entries = dump_of_book place entries (book_end place entries)

-- ---- what comes of a call that restores it

-- The book is made again, with its place of migration, and nothing is said but that, where the disk returned what was written and the
-- connection is open. Or nothing is made, for a fault that isn't of the text, or since a line or an entry is too long.
abbrev pub TakesDump : ℕ → List Entry → Terms → Reading → State → State → Option (List ℕ) → Option (List ℕ) → WritesMade → Told → Type 0
TakesDump place entries asked input old new before written calls told =
    ((it : IsRestored asked input old new before written calls told)
    × (HasCleanDisk new → IsTrue new.is_open → IsGivenBack place entries before it.mid new it.how))
    ⊎ ((fault : RestoreFault) × IsNotRestored asked input old new before written calls told fault × MayEndSo fault)

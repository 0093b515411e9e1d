-- The fault of a row is that of the file, and its rows are numbered.
use Rattle.std.proofs.Common.{subst, sym}
use Rattle.lot_export.specs.Entries.{AreNumbered}
use Rattle.lot_export.proofs.EntryLemmas.{numbered, row_fault}
use Rattle.lot_export.proofs.export.read_export.Goals as goal

pub returns-in-Err-entries-clause-fault : goal.returns-in-Err-entries-clause-fault
returns-in-Err-entries-clause-fault c =
    row_fault c.args.profile.now c.args.except.now c.args.bytes.now c.in-Ok.rows.items c.in-Err-entries.fault c.in-Ok.ensures.rows (rw c.deref.ensures.value at c.in-Err-entries.ensures.fault)

pub export_of-requires : goal.export_of-requires
export_of-requires c = record {
  numbered = subst AreNumbered (sym c.as_slice.ensures)
      (numbered c.args.profile.now c.args.bytes.now c.in-Ok.rows.items c.in-Ok-entries.entries c.in-Ok.ensures.rows (rw c.deref.ensures.value at c.in-Ok-entries.ensures.ok));
}

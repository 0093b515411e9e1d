-- So many of the rows so far are passed over.
use Rattle.std.proofs.Common.{◌≡◌, take}
use Rattle.lot_export.specs.Entries.{skipped_in}
use Rattle.lot_export.proofs.entry.skipped.Given as goal

abbrev pub invariant-loop-entry : goal.invariant-loop-entry
invariant-loop-entry l = l.count ≡ skipped_in (take l.entry-index l.entries)

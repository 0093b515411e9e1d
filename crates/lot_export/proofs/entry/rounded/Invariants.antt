-- So many of the rows so far, as many as can be counted.
use Rattle.std.proofs.Common.{◌≡◌, take}
use Rattle.lot_export.specs.Entries.{rounded_in}
use Rattle.lot_export.proofs.entry.rounded.Given as goal

abbrev pub invariant-loop-entry : goal.invariant-loop-entry
invariant-loop-entry l = l.count ≡ rounded_in (take l.entry-index l.entries)

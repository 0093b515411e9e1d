-- The rows so far say what they say.
use Rattle.std.proofs.Common.{take}
use Rattle.lot_export.specs.Entries.{AreEntries}
use Rattle.lot_export.proofs.entry.entries.Given as goal

abbrev pub invariant-loop-row : goal.invariant-loop-row
invariant-loop-row l = AreEntries l.profile (take l.row-index l.rows) l.entries

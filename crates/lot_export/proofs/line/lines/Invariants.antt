-- The lines so far are those of the rows so far.
use Rattle.std.proofs.Common.{◌≡◌, map, take}
use Rattle.lot_export.specs.Lines.{lines_of, plain}
use Rattle.lot_export.proofs.line.lines.Given as goal

abbrev pub invariant-loop-entry : goal.invariant-loop-entry
invariant-loop-entry l = map plain l.lines.items ≡ lines_of (take l.entry-index l.entries)

-- The lines of the tables so far are written.
use Rattle.std.proofs.Common.{take}
use Rattle.std.specs.Io.KnownBytes.{Appends}
use Rattle.lot_explain.specs.Explained.{lines_among}
use Rattle.lot_explain.proofs.explained.list_among.Given as goal

abbrev pub invariant-loop-table : goal.invariant-loop-table
invariant-loop-table g l =
    Appends (g.W.Write.contents l.initial.writer) (g.W.Write.contents l.writer) (lines_among (take l.table-index l.tables))

-- The lines of the codes so far are written.
use Rattle.std.proofs.Common.{take}
use Rattle.std.specs.Io.KnownBytes.{Appends}
use Rattle.std.specs.List.{flat_map}
use Rattle.lot_explain.specs.Explained.{code_line}
use Rattle.lot_explain.proofs.explained.list_in.Given as goal

abbrev pub invariant-loop-code : goal.invariant-loop-code
invariant-loop-code g l =
    Appends (g.W.Write.contents l.initial.writer) (g.W.Write.contents l.writer) (flat_map code_line (take l.code-index l.table))

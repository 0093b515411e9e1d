-- The texts of those so far that the word names are written.
use Rattle.std.proofs.Common.{take}
use Rattle.std.specs.Io.KnownBytes.{Appends}
use Rattle.lot_explain.specs.Explained.{texts_of}
use Rattle.lot_explain.proofs.explained.explain_in.Given as goal

abbrev pub invariant-loop-code : goal.invariant-loop-code
invariant-loop-code g l =
    Appends (g.W.Write.contents l.initial.writer) (g.W.Write.contents l.writer) (texts_of l.word (take l.code-index l.table))

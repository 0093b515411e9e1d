-- The texts of those so far that the word names are written.
use Rattle.std.proofs.Common.{take}
use Rattle.std.specs.Io.KnownBytes.{Appends}
use Rattle.lot_explain.specs.Explained.{cause_texts_of}
use Rattle.lot_explain.proofs.explained.explain_causes.Given as goal

abbrev pub invariant-loop-cause : goal.invariant-loop-cause
invariant-loop-cause g l =
    Appends (g.W.Write.contents l.initial.writer) (g.W.Write.contents l.writer) (cause_texts_of l.word (take l.cause-index l.causes))

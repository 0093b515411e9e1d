-- The lines so far are written.
use Rattle.std.proofs.Common.{eqb}
use Rattle.std.specs.List.{slice_split}
use Rattle.lot_explain.proofs.ExplainedLemmas.{PartsSoFar}
use Rattle.lot_explain.specs.Explained.{indented_line}
use Rattle.lot_explain.proofs.explained.write_indented.Given as goal

abbrev pub invariant-loop-line : goal.invariant-loop-line
invariant-loop-line g l =
    PartsSoFar indented_line (slice_split (λ byte. eqb byte 10) l.text) l.line-iterator (g.W.Write.contents l.initial.writer)
    (g.W.Write.contents l.writer)

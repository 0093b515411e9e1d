-- The rounds so far were for nothing.
use Rattle.lot_files.specs.Copy.{AreTorn}
use Rattle.lot_files.proofs.copy.copied.Given as goal

abbrev pub invariant-loop-try : goal.invariant-loop-try
invariant-loop-try g l = AreTorn g.S.Source l._try l.initial.source l.source

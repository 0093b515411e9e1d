-- The rows so far are handed in.
use Rattle.std.specs.Iterator.Adapters.{zip_first, zip_second}
use Rattle.std.specs.Slice.Iter.{iter_rest}
use Rattle.lot_export.proofs.HandedInLemmas.{AreTaken}
use Rattle.lot_export.proofs.handed_in.handed_in.Given as goal

abbrev pub invariant-loop-named : goal.invariant-loop-named
invariant-loop-named l =
    AreTaken l.source l.sheet (iter_rest (zip_first l.named-iterator)) (iter_rest (zip_second l.named-iterator)) l.numbers.items l.commands.items

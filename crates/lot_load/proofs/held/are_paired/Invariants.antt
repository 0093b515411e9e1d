-- The rows that are left have the same lots exactly where all do.
use Rattle.std.specs.Iterator.Adapters.{zip_first, zip_second}
use Rattle.std.specs.Slice.Iter.{iter_rest}
use Rattle.lot_load.proofs.PairedLemmas.{StayPaired}
use Rattle.lot_load.proofs.held.are_paired.Given as goal

abbrev pub invariant-loop-row : goal.invariant-loop-row
invariant-loop-row l = StayPaired l.lots l.openings (iter_rest (zip_first l.row-iterator)) (iter_rest (zip_second l.row-iterator))

-- The rows so far are before those that are left.
use Rattle.std.specs.Iterator.Adapters.{zip_first, zip_second}
use Rattle.std.specs.Slice.Iter.{iter_rest}
use Rattle.lot_export.proofs.NamedLemmas.{AreNamed}
use Rattle.lot_export.proofs.named.with_names.Given as goal

abbrev pub invariant-loop-line : goal.invariant-loop-line
invariant-loop-line l =
    AreNamed l.lines (iter_rest (zip_first l.line-iterator)) l.names (iter_rest (zip_second l.line-iterator)) l.rows

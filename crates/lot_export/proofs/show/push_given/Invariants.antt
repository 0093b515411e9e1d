-- What is shown so far, and what is left.
use Rattle.std.specs.String.{string_bytes}
use Rattle.std.specs.Iterator.Adapters.{zip_first, zip_second}
use Rattle.std.specs.Slice.Iter.{iter_rest}
use Rattle.lot_export.proofs.ShowLemmas.{AreShown}
use Rattle.lot_export.proofs.show.push_given.Given as goal

abbrev pub invariant-loop-number : goal.invariant-loop-number
invariant-loop-number l =
    AreShown l.given.numbers.items (iter_rest (zip_first l.number-iterator)) l.given.commands.items (iter_rest (zip_second l.number-iterator))
    (string_bytes l.fn.text) (string_bytes l.text)

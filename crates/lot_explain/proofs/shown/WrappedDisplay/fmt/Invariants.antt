-- What is written so far, and what the words that are left come to behind so many columns, is the text in lines.
use Rattle.std.proofs.Common.{◌≡◌, ℕ, List, ◌++◌}
use Rattle.std.specs.Fmt.{HasWritten, IsPlainFormatter}
use Rattle.lot_explain.proofs.ExplainedLemmas.{Left}
use Rattle.lot_explain.specs.Explained.{wrapped, wrapped_behind}
use Rattle.lot_explain.proofs.shown.WrappedDisplay.fmt.Given as goal

abbrev pub invariant-loop-word : goal.invariant-loop-word
invariant-loop-word g l =
    (rest : List (List ℕ)) × Left l.word-iterator rest
    × (IsPlainFormatter l.initial.f → (done : List ℕ) × HasWritten g.W.Write.write_str_gives l.initial.f done l.f
    × (done ++ wrapped_behind l.column rest ≡ wrapped l.fn.self.0.now))

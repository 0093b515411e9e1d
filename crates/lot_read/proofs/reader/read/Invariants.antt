-- The lines so far stand before those left, and say the commands so far.
use Rattle.std.proofs.Common.{◌≡◌, ◌++◌, List, ℕ, length}
use Rattle.lot_syntax.specs.Line.{AreLines}
use Rattle.lot_read.specs.Text.{LinesSay}
use Rattle.lot_read.proofs.reader.read.Given as goal

abbrev pub invariant-loop-line : goal.invariant-loop-line
invariant-loop-line l =
    (lines : List (List ℕ)) × (l.number ≡ length lines) × AreLines (lines ++ l.line-iterator) l.text × LinesSay lines l.commands.items

-- What is passed of the text, with the lines that are left, is what is passed of all.
use Rattle.std.proofs.Common.{◌≡◌, List, ℕ}
use Rattle.lot_syntax.specs.Line.{AreLines}
use Rattle.lot_explain.specs.Site.{none_passed, with_lines}
use Rattle.lot_explain.proofs.site.commands_in.Given as goal

abbrev pub invariant-loop-line : goal.invariant-loop-line
invariant-loop-line l =
    (lines : List (List ℕ)) × AreLines lines l.text × (with_lines l.line-iterator l.passed ≡ with_lines lines none_passed)

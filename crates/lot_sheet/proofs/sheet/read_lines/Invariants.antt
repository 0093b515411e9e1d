-- The lines that were read stand before those left, and say the rows so far.
use Rattle.std.proofs.Common.{◌≡◌, ◌++◌, List, ℕ, length}
use Rattle.lot_sheet.specs.Reading.{IsAt, IsOpen, lines_left}
use Rattle.lot_sheet.proofs.sheet.read_lines.Given as goal

abbrev pub invariant-loop-sheet : goal.invariant-loop-sheet
invariant-loop-sheet l =
    record {
      is_open : IsOpen l.reader;
      above : List (List (List ℕ));
      all : lines_left l.fn.reader ≡ above ++ lines_left l.reader;
      at : IsAt l.form l.tables above l.sheet;
    }

-- each turn takes a line
abbrev pub decreases-loop-sheet : goal.decreases-loop-sheet
decreases-loop-sheet l = length (lines_left l.reader)

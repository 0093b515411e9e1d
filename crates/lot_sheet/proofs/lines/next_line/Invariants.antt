-- The records that were passed over are no lines.
use Rattle.std.proofs.Common.{◌≡◌, length}
use Rattle.lot_sheet.specs.Reading.{IsOpen, lines_left, records_left}
use Rattle.lot_sheet.proofs.lines.next_line.Given as goal

abbrev pub invariant-loop-line : goal.invariant-loop-line
invariant-loop-line l =
    record {
      is_open : IsOpen l.reader;
      same : lines_left l.fn.reader ≡ lines_left l.reader;
    }

-- each turn takes a record
abbrev pub decreases-loop-line : goal.decreases-loop-line
decreases-loop-line l = length (records_left l.reader)

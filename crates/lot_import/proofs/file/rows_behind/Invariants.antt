-- The records so far stand before those left, and say the rows so far.
use Rattle.std.proofs.Common.{◌≡◌, ◌≤◌, ◌++◌, List, ℕ, length}
use Rattle.lot_import.specs.File.{SayRows, most_rows}
use Rattle.lot_import.specs.Reading.{IsOpen, records_left}
use Rattle.lot_import.proofs.file.rows_behind.Given as goal

abbrev pub invariant-loop-rows : goal.invariant-loop-rows
invariant-loop-rows l =
    record {
      is_open : IsOpen l.reader;
      done : List (List (List ℕ));
      all : records_left l.fn.reader ≡ done ++ records_left l.reader;
      said : SayRows l.version done l.rows.items;
      few : length l.rows.items ≤ most_rows;
    }

-- each turn takes a record
abbrev pub decreases-loop-rows : goal.decreases-loop-rows
decreases-loop-rows l = length (records_left l.reader)

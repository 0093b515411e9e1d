-- The records so far stand before those left, and say the lines that are kept.
use Rattle.std.proofs.Common.{◌≡◌, ◌++◌, [], List, ℕ, length}
use Rattle.lot_import.specs.Reading.{IsOpen, records_left}
use Rattle.lot_statement.specs.Line.{Line}
use Rattle.lot_statement.specs.Statement.{AreApart, HasSaid, SayLines}
use Rattle.lot_statement.proofs.statement.rows_behind.Given as goal

abbrev pub invariant-records : goal.invariant-records
invariant-records l =
    record {
      is_open : IsOpen l.reader;
      done : List (List (List ℕ));
      lines : List Line;
      all : records_left l.fn.reader ≡ done ++ records_left l.reader;
      say : SayLines done lines;
      apart : AreApart [] lines;
      kept : HasSaid lines l.said;
    }

-- each turn takes a record
abbrev pub decreases-records : goal.decreases-records
decreases-records l = length (records_left l.reader)

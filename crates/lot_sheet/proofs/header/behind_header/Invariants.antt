-- The tables so far stand as they do behind the header.
use Rattle.std.proofs.Common.{◌≡◌, map, take}
use Rattle.csv.specs.Records.{fields_of}
use Rattle.lot_sheet.specs.Header.{with_header}
use Rattle.lot_sheet.proofs.header.behind_header.Given as goal

abbrev pub invariant-loop-table : goal.invariant-loop-table
invariant-loop-table l =
    l.made.items ≡ map (with_header l.delimiter l.number (fields_of l.line)) (take l.table-index l.tables)

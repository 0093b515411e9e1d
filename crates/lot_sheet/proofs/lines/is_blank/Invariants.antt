-- All fields are blank exactly where those left are.
use Rattle.std.proofs.Common.{◌≡◌, drop}
use Rattle.std.specs.List.{list_all}
use Rattle.csv.specs.Records.{fields_of}
use Rattle.lot_sheet.specs.Column.{is_blank_field}
use Rattle.lot_sheet.proofs.lines.is_blank.Given as goal

abbrev pub invariant-loop-place : goal.invariant-loop-place
invariant-loop-place l =
    list_all is_blank_field (fields_of l.line) ≡ list_all is_blank_field (drop l.place (fields_of l.line))

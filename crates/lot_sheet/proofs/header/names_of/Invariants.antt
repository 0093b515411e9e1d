-- The names so far are those of the fields so far.
use Rattle.std.proofs.Common.{◌≡◌, take}
use Rattle.csv.specs.Records.{fields_of}
use Rattle.lot_sheet.specs.Column.{names_in}
use Rattle.lot_sheet.proofs.header.names_of.Given as goal

abbrev pub invariant-loop-place : goal.invariant-loop-place
invariant-loop-place l = l.names ≡ names_in (take l.place (fields_of l.line))

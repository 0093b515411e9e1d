-- Something stands from that place on exactly where something stands in what is left.
use Rattle.std.proofs.Common.{◌≡◌, List, ℕ, not, drop}
use Rattle.std.specs.List.{list_any}
use Rattle.csv.specs.Records.{fields_of}
use Rattle.lot_sheet.specs.Column.{is_blank_field}
use Rattle.lot_sheet.proofs.part.has_more.Given as goal

abbrev pub invariant-loop-place : goal.invariant-loop-place
invariant-loop-place l =
    list_any (λ (field : List ℕ). not (is_blank_field field)) (drop l.from (fields_of l.line))
    ≡ list_any (λ (field : List ℕ). not (is_blank_field field)) (drop l.place (fields_of l.line))

-- The line begins with the text exactly where the fields left begin with what is left of it.
use Rattle.std.proofs.Common.{◌≡◌, ◌∷◌, List, ℕ, drop}
use Rattle.std.specs.List.{flat_map}
use Rattle.lot_sheet.specs.Column.{names_in}
use Rattle.csv.specs.Records.{fields_of}
use Rattle.lot_sheet.specs.Header.{begins, joined}
use Rattle.lot_sheet.proofs.header.begins.Given as goal

abbrev pub invariant-loop-place : goal.invariant-loop-place
invariant-loop-place l =
    begins l.text (joined l.between (names_in (fields_of l.line)))
    ≡ begins l.rest (flat_map (λ (more : List ℕ). l.between ∷ more) (drop l.place (names_in (fields_of l.line))))

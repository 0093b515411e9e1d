-- None of the tables so far takes the line.
use Rattle.std.proofs.Common.{ℕ, ◌<◌, get_or}
use Rattle.csv.specs.Records.{fields_of}
use Rattle.lot_sheet.specs.Header.{Standing}
use Rattle.lot_sheet.specs.Part.{Takes}
use Rattle.lot_sheet.proofs.part.first_taker.Given as goal

abbrev pub invariant-loop-place : goal.invariant-loop-place
invariant-loop-place l =
    (k : ℕ) (d : Standing) → k < l.place → Takes l.form (fields_of l.line) (get_or l.tables k d) → ⊥

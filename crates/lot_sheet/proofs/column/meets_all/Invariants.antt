-- The conditions so far are met.
use Rattle.std.proofs.Common.{ℕ, ◌<◌, List, Bor, get_or, option_map}
use Rattle.csv.specs.Records.{fields_of}
use Rattle.lot_profile.specs.declared.file.Condition.{Condition}
use Rattle.lot_sheet.specs.Column.{MeetsOne}
use Rattle.lot_sheet.proofs.column.meets_all.Given as goal

abbrev pub invariant-loop-condition : goal.invariant-loop-condition
invariant-loop-condition l =
    (k : ℕ) (d : Condition) → k < l.condition-index
    → MeetsOne l.form (option_map (λ (names : Bor (List (List ℕ))). names.now) l.header) (fields_of l.line) (get_or l.conditions k d)

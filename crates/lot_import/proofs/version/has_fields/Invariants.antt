use Rattle.std.proofs.Common.{◌≡◌, ℕ, ◌<◌, List, [], map, get_or, Bor}
use Rattle.csv.specs.Records.{fields_of}
use Rattle.lot_import.proofs.version.has_fields.Given as goal

-- the fields before this column are the names
abbrev pub invariant-loop-column : goal.invariant-loop-column
invariant-loop-column l =
    (k : ℕ) → k < l.column → get_or (fields_of l.written) k [] ≡ get_or (map (λ (name : Bor (List ℕ)). name.now) l.names) k []

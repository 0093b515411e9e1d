use Rattle.std.specs.Prelude.{◌≡◌, map, take}
use Rattle.std.specs.List.{count_by}
use Rattle.lot_sequence.specs.Count.{counted}
use Rattle.lot_sequence.specs.Key.{Said, is_same, keys_of, said}
use Rattle.lot_sequence.proofs.key.keys.Given as goal

abbrev pub invariant-loop-row : goal.invariant-loop-row
invariant-loop-row l = record {
  written : l.keys.items ≡ keys_of (map said (take l.row-index l.rows));
  counts : (row : Said) → counted l.counts row ≡ count_by (λ other. is_same other row) (map said (take l.row-index l.rows));
}

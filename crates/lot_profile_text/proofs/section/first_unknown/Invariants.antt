use Rattle.std.proofs.Common.{◌≡◌, map}
use Rattle.toml.specs.View.{members_view}
use Rattle.lot_profile_text.specs.Reading.{first_unknown, key_of}
use Rattle.lot_profile_text.proofs.section.first_unknown.Given as goal

abbrev pub invariant-loop-key : goal.invariant-loop-key
invariant-loop-key l =
    (goal.iterator-loop-key).can_next l.key-iterator × (goal.iterator-loop-key).is_finite l.key-iterator
    × (first_unknown (map key_of l.entries) (members_view l.table.entries) ≡ first_unknown (map key_of l.entries) (members_view l.key-iterator))

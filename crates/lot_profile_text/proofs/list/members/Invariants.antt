use Rattle.std.proofs.Common.{◌≡◌}
use Rattle.toml.specs.View.{members_view, table_view}
use Rattle.lot_profile_text.specs.Reading.{each, keyed_members, members_of}
use Rattle.lot_profile_text.proofs.EachLemmas.{behind}
use Rattle.lot_profile_text.proofs.list.members.Given as goal

abbrev pub invariant-loop-key : goal.invariant-loop-key
invariant-loop-key g l =
    (goal.iterator-loop-key g).can_next l.key-iterator × (goal.iterator-loop-key g).is_finite l.key-iterator
    × (members_of g.M.Member.said_at l.place (table_view l.table) ≡ behind l.all (each (λ m. g.M.Member.said_at l.place m.0 m.1) (keyed_members (members_view l.key-iterator))))

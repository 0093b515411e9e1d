-- The notes so far are behind the text.
use Rattle.std.proofs.Common.{◌≡◌, ◌++◌, map, take}
use Rattle.std.specs.List.{flat_map}
use Rattle.std.specs.String.{string_bytes}
use Rattle.lot_profile_text.specs.Explained.{note_text}
use Rattle.lot_profile_text.proofs.explain.push_notes.Given as goal

abbrev pub invariant-loop-note : goal.invariant-loop-note
invariant-loop-note l =
    string_bytes l.text ≡ string_bytes l.initial.text ++ flat_map note_text (map (λ note. note.now) (take l.note-index l.notes))

-- No character begins behind the place, up to where it was.
use Rattle.std.proofs.Common.{◌≡◌, ◌<◌, length}
use Rattle.std.specs.String.{string_bytes}
use Rattle.lot_roles.specs.Narration.{character_place}
use Rattle.lot_roles.proofs.narrations.character_place.Given as goal

abbrev pub invariant-loop-place : goal.invariant-loop-place
invariant-loop-place l =
    (l.place < length (string_bytes l.text)) × (character_place (string_bytes l.text) l.initial.place ≡ character_place (string_bytes l.text) l.place)

abbrev pub decreases-loop-place : goal.decreases-loop-place
decreases-loop-place l = l.place

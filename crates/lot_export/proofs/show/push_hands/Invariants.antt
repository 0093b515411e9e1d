-- The rows so far are shown.
use Rattle.std.proofs.Common.{◌≡◌, ◌++◌, take}
use Rattle.std.specs.String.{string_bytes}
use Rattle.lot_export.specs.Show.{shown_hands}
use Rattle.lot_export.proofs.show.push_hands.Given as goal

abbrev pub invariant-loop-row : goal.invariant-loop-row
invariant-loop-row l = string_bytes l.text ≡ string_bytes l.fn.text ++ shown_hands (take l.row-index l.rows)

-- The rows so far that are posted by hand.
use Rattle.std.proofs.Common.{◌≡◌, take}
use Rattle.lot_export.specs.Named.{by_hand_of}
use Rattle.lot_export.proofs.named.by_hand.Given as goal

abbrev pub invariant-loop-named : goal.invariant-loop-named
invariant-loop-named l = l.left ≡ by_hand_of l.entries l.except (take l.named-index l.rows)

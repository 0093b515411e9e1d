use Rattle.std.proofs.Common.{◌≡◌}
use Rattle.lot_num.specs.AmountText.{shown_decimals}
use Rattle.lot_num.proofs.printed.shown.Given as goal

-- what is shown of the digits that are left is what is shown of all
abbrev pub invariant-loop-places : goal.invariant-loop-places
invariant-loop-places l = shown_decimals l.decimals.least l.places l.digits ≡ shown_decimals l.decimals.least l.decimals.scale l.fraction

abbrev pub decreases-loop-places : goal.decreases-loop-places
decreases-loop-places l = l.places

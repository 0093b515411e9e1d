-- The crumbs so far are added, and the others are left.
use Rattle.std.proofs.Common.{◌≡◌, ℕ, List, ◌++◌, drop}
use Rattle.std.specs.Prelude.{ℤ}
use Rattle.lot_call.specs.Sums.{AreSummed, nonzero}
use Rattle.lot_call.proofs.taken.add_all.Given as goal

abbrev pub invariant-loop-currency : goal.invariant-loop-currency
invariant-loop-currency l =
    (amounts : List (List ℕ × ℤ)) → AreSummed amounts l.initial.sums
    → (added : List (List ℕ × ℤ)) × AreSummed added l.sums
    × (added ++ nonzero (drop l.currency-index l.crumbs) ≡ amounts ++ nonzero l.crumbs)

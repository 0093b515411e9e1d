use Rattle.std.proofs.Common.{◌≡◌, ◌++◌, ℕ, List, take}
use Rattle.std.specs.Prelude.{flat_map}
use Rattle.lot_split.specs.Crumbs.{crumb_postings}
use Rattle.lot_split.specs.Lots.{crumb_in}
use Rattle.lot_split.proofs.transaction.push_crumbs.Given as goal

-- the crumbs of the currencies so far are taken
abbrev pub invariant-loop-currency : goal.invariant-loop-currency
invariant-loop-currency l = l.postings ≡ l.initial.postings
    ++ flat_map (λ (currency : List ℕ). crumb_postings l.asked.rounding currency (crumb_in l.lots l.split currency)) (take l.currency-index l.currency-items)

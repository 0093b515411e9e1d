use Rattle.std.proofs.Common.{◌≡◌, ◌++◌, take}
use Rattle.std.specs.Prelude.{flat_map}
use Rattle.lot_completion.specs.Crumbs.{crumb_postings}
use Rattle.lot_completion.proofs.crumbs.push_crumbs.Given as goal

-- the postings of the crumbs so far are appended
abbrev pub invariant-loop-currency : goal.invariant-loop-currency
invariant-loop-currency l = l.postings ≡ l.initial.postings ++ flat_map (crumb_postings l.account) (take l.currency-index l.crumbs)

use Rattle.std.proofs.Common.{◌≡◌, ◌++◌, take}
use Rattle.lot_split.specs.Split.{openings}
use Rattle.lot_split.proofs.transaction.push_openings.Given as goal

-- the lots so far are opened
abbrev pub invariant-loop-lot : goal.invariant-loop-lot
invariant-loop-lot l = l.postings ≡ l.initial.postings ++ openings l.asked (take l.lot-index l.split)

use Rattle.std.proofs.Common.{◌≡◌, take}
use Rattle.lot_completion.specs.Proposal.{crumbs_in}
use Rattle.lot_completion.proofs.split.crumbs_of.Given as goal

-- what the postings so far weigh
abbrev pub invariant-loop-posting : goal.invariant-loop-posting
invariant-loop-posting l = l.crumbs ≡ crumbs_in (take l.posting-index l.postings)

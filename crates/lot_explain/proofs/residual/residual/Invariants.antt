use Rattle.std.proofs.Common.{◌≡◌, drop}
use Rattle.lot_explain.specs.Residual.{residual_said, sum_with}
use Rattle.lot_explain.proofs.residual.residual.Given as goal

-- the sum so far, with the postings that are left, is that of all
abbrev pub invariant-loop-posting : goal.invariant-loop-posting
invariant-loop-posting l = sum_with l.currency l.sum (drop l.posting-index l.postings) ≡ residual_said l.currency l.postings

use Rattle.std.proofs.Common.{◌≡◌, List, take}
use Rattle.lot_completion.specs.Rates.{RatesAll, left_of, postings_of}
use Rattle.lot_completion.specs.declared.rates.RatedPosting.{RatedPosting}
use Rattle.lot_completion.proofs.rates.rate_all.Given as goal

-- the postings so far are rated
abbrev pub invariant-loop-posting : goal.invariant-loop-posting
invariant-loop-posting l =
    (rated : List RatedPosting) × RatesAll (take l.posting-index l.written) rated
    × (l.postings ≡ postings_of rated) × (l.left ≡ left_of rated)

use Rattle.std.proofs.Common.{◌≡◌, ◌+◌, ◌∷◌, MatchOption, drop}
use Rattle.lot_book.specs.Balance.{elided_postings}
use Rattle.lot_ledger.proofs.checks.only_elided.Given as goal

-- the elided posting so far, if there is one, and those that are left are all
abbrev pub invariant-loop-index : goal.invariant-loop-index
invariant-loop-index l =
    let left = elided_postings (l.index + 1) (drop l.index l.postings) in
    MatchOption l.elided (elided_postings 1 l.postings ≡ left) (λ elided. elided_postings 1 l.postings ≡ elided ∷ left)

use Rattle.std.proofs.Common.{◌≡◌, ◌≤◌, ◌*◌, take}
use Rattle.std.specs.Prelude.{unsigned_abs}
use Rattle.lot_book.specs.Currencies.{sum_in}
use Rattle.lot_completion.specs.Form.{most_of_crumb}
use Rattle.lot_completion.specs.Formed.{parts_in}
use Rattle.lot_completion.proofs.behind.sum_in.Given as goal

-- what the postings so far make up for, at most one each
abbrev pub invariant-loop-posting : goal.invariant-loop-posting
invariant-loop-posting l = record {
  sum : l.sum ≡ sum_in (parts_in (take l.posting-index l.postings)) l.currency;
  small : unsigned_abs l.sum ≤ l.posting-index * most_of_crumb;
}

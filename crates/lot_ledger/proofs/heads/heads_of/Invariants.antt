use Rattle.std.proofs.Common.{◌≡◌, ℕ, List, Some, None, cond, drop}
use Rattle.std.specs.BTreeMap.{get}
use Rattle.std.specs.List.{list_any}
use Rattle.lot_book.specs.Facts.{posts_at_cost}
use Rattle.lot_ledger.proofs.heads.heads_of.Given as goal
use Rattle.lot_book.specs.Change.{pair_cmp}

-- the days so far, with those of the postings that are left, are those of all
abbrev pub invariant-loop-posting : goal.invariant-loop-posting
invariant-loop-posting l =
    (account commodity : List ℕ)
    → cond (list_any (posts_at_cost account commodity) (drop l.posting-index l.posting-items)) (Some l.fn.transaction.day)
    (get pair_cmp l.heads (record { account = account; commodity = commodity }))
    ≡ cond (list_any (posts_at_cost account commodity) l.fn.transaction.postings) (Some l.fn.transaction.day) None

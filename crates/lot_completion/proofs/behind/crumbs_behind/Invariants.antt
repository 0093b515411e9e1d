use Rattle.std.proofs.Common.{◌≡◌, take}
use Rattle.lot_book.specs.Balance.{currencies}
use Rattle.lot_book.specs.Currencies.{sum_in}
use Rattle.lot_book.proofs.CurrencyLemmas.{beside}
use Rattle.lot_completion.specs.Formed.{parts_in}
use Rattle.lot_completion.proofs.behind.crumbs_behind.Given as goal

-- the currencies so far, each beside what all postings make up for there
abbrev pub invariant-loop-posting : goal.invariant-loop-posting
invariant-loop-posting l = l.crumbs ≡ beside (sum_in (parts_in l.postings)) (currencies (parts_in (take l.posting-index l.postings)))

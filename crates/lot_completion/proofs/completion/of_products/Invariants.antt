use Rattle.std.proofs.Common.{◌≡◌, take}
use Rattle.lot_completion.specs.Completion.{of_products}
use Rattle.lot_completion.proofs.completion.of_products.Given as goal

-- those of the residuals so far are found
abbrev pub invariant-loop-currency : goal.invariant-loop-currency
invariant-loop-currency l = l.found ≡ of_products l.postings l.legs (take l.currency-index l.residuals)

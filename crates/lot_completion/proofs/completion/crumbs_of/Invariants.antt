use Rattle.std.proofs.Common.{take}
use Rattle.std.specs.List.{AllZip}
use Rattle.lot_completion.specs.Completion.{IsCrumbOf}
use Rattle.lot_completion.proofs.completion.crumbs_of.Given as goal

-- the residuals so far have these crumbs
abbrev pub invariant-loop-currency : goal.invariant-loop-currency
invariant-loop-currency l = AllZip (IsCrumbOf l.fn.fill l.left) (take l.currency-index l.residuals) l.crumbs

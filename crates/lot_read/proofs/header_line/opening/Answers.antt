-- Memory is asked for once all parts are known to be inside.
use Rattle.lot_read.proofs.DirectiveLemmas.{opening_inside, refused_memory}
use Rattle.lot_read.proofs.header_line.opening.Goals as goal

pub returns-in_err-keep-clause-refused : goal.returns-in_err-keep-clause-refused
returns-in_err-keep-clause-refused c =
    refused_memory _ c.from_residual-in_err-keep.result c.from_residual-in_err-keep.ensures.1
    (opening_inside _ _ _ _ _ _ c.in_ok-account.ensures.means c.in_ok-currencies.ensures.means c.in_ok-method.ensures.means)

pub returns-in_err-keep-2-clause-refused : goal.returns-in_err-keep-2-clause-refused
returns-in_err-keep-2-clause-refused c =
    refused_memory _ c.from_residual-in_err-keep-2.result c.from_residual-in_err-keep-2.ensures.1
    (opening_inside _ _ _ _ _ _ c.in_ok-account.ensures.means c.in_ok-currencies.ensures.means c.in_ok-method.ensures.means)

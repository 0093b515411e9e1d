-- The first part is the day; behind it the first part outside its rule is that of the directive.
use Rattle.lot_read.proofs.DirectiveLemmas.{refused_outside, refused_with}
use Rattle.lot_read.proofs.ItemLemmas.{outside_first, outside_later}
use Rattle.lot_read.proofs.header_line.command.Goals as goal

pub returns-in_err-day-clause-outside : goal.returns-in_err-day-clause-outside
returns-in_err-day-clause-outside c = λ fault is.
    refused_with _ fault c.from_residual.result
    (refused_outside _ c.in_err-day.field-0.0 c.from_residual.result c.from_residual.ensures.1
    (outside_first _ _ _ c.in_err-day.ensures.outside)) is

pub returns-clause-outside : goal.returns-clause-outside
returns-clause-outside c = λ fault is.
    outside_later _ _ _ (c.in_ok-day.day, c.in_ok-day.ensures.means)
    (refused_with _ fault c.directive.result c.directive.ensures.refused is)

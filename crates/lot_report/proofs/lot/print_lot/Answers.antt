use Rattle.std.proofs.Common.{◌∙◌}
use Rattle.lot_report.proofs.HoldingLemmas.{missing_printed, unvalued_printed, value_printed}
use Rattle.lot_report.proofs.lot.print_lot.Goals as goal

pub returns-in-Unasked-clause-line : goal.returns-in-Unasked-clause-line
returns-in-Unasked-clause-line g c =
    unvalued_printed _ _ _ _ _ _ _ _ _ _ (c.as_str.ensures.value ∙ c.in_ok-text.ensures) (c.as_str-2.ensures.value ∙ c.in_ok-number.ensures) c.in-Unasked.is
    c.print_line.ensures.bytes

pub returns-in-Missing-clause-line : goal.returns-in-Missing-clause-line
returns-in-Missing-clause-line g c =
    missing_printed _ _ _ _ _ _ _ _ _ _ (c.as_str.ensures.value ∙ c.in_ok-text.ensures) (c.as_str-2.ensures.value ∙ c.in_ok-number.ensures) c.in-Missing.is
    c.print_line-in-Missing.ensures.bytes

pub returns-clause-line : goal.returns-clause-line
returns-clause-line g c =
    value_printed _ _ _ _ _ _ _ _ _ _ _ _ _ (c.as_str.ensures.value ∙ c.in_ok-text.ensures) (c.as_str-2.ensures.value ∙ c.in_ok-number.ensures) c.in-At.is
    c.weight.ensures.value c.in_ok-value-in-At.ensures c.print_line-in-At.ensures.bytes

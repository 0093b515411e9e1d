use Rattle.std.proofs.Common.{ap, ◌∙◌}
use Rattle.lot_num.specs.AmountText.{amount_text}
use Rattle.lot_report.proofs.GainLemmas.{priced_printed}
use Rattle.lot_report.proofs.gains.print_priced.Goals as goal

pub returns-clause-line : goal.returns-clause-line
returns-clause-line g c =
    priced_printed _ _ _ c.args.sale.now c.args.currency.now c.args.gain _ _ _ _
    (c.as_str.ensures.value ∙ c.in_ok-units.ensures ∙ ap (amount_text 0 8) c.units.ensures.value)
    c.in_ok-proceeds.ensures c.in_ok-cost.ensures c.in_ok-gain.ensures c.print_line.ensures.bytes

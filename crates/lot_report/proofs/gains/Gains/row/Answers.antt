use Rattle.std.proofs.Common.{◌∙◌, sym}
use Rattle.lot_report.specs.Gains.{HasTaken, fits, sale_lines}
use Rattle.lot_report.proofs.FedLemmas.{fed_with, row_ends, row_grows}
use Rattle.lot_report.proofs.gains.Gains.row.Goals as goal

pub returns-in_err-row-clause-text : goal.returns-in_err-row-clause-text
returns-in_err-row-clause-text g c sales start fed before =
    row_ends sale_lines fits HasTaken sales c.args.sale.now c.row.new.self c.take.new.self start _ _ c.in_err-row.field-0.0 c.from_residual.result
    before (c.in_err-row.ensures.takes sales (fed_with fits HasTaken sales c.args.self.now.progress c.in-Some.progress fed (sym c.take.ensures.value ∙ c.in-Some.is)))
    c.from_residual.ensures.1

pub returns-clause-text : goal.returns-clause-text
returns-clause-text g c sales start fed before =
    row_grows sale_lines fits HasTaken sales c.args.sale.now c.row.new.self start _ _ tt fed.0 before
    (c.in_ok-row.ensures.takes sales (fed_with fits HasTaken sales c.args.self.now.progress c.in-Some.progress fed (sym c.take.ensures.value ∙ c.in-Some.is)))

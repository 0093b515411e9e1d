use Rattle.std.proofs.Common.{◌∙◌, sym}
use Rattle.lot_report.specs.Holdings.{HasTaken, fits, row_lines}
use Rattle.lot_report.proofs.FedLemmas.{fed_with, row_ends, row_grows}
use Rattle.lot_report.proofs.holdings.Holdings.row.Goals as goal

pub returns-in_err-row-clause-text : goal.returns-in_err-row-clause-text
returns-in_err-row-clause-text g c rows start fed before =
    row_ends row_lines fits HasTaken rows c.args.row.now c.row.new.self c.take.new.self start _ _ c.in_err-row.field-0.0 c.from_residual.result
    before (c.in_err-row.ensures.takes rows (fed_with fits HasTaken rows c.args.self.now.progress c.in-Some.progress fed (sym c.take.ensures.value ∙ c.in-Some.is)))
    c.from_residual.ensures.1

pub returns-clause-text : goal.returns-clause-text
returns-clause-text g c rows start fed before =
    row_grows row_lines fits HasTaken rows c.args.row.now c.row.new.self start _ _ tt fed.0 before
    (c.in_ok-row.ensures.takes rows (fed_with fits HasTaken rows c.args.self.now.progress c.in-Some.progress fed (sym c.take.ensures.value ∙ c.in-Some.is)))

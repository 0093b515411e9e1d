use Rattle.lot_report.specs.Holdings.{HasTaken, IsEnd, fits, row_lines}
use Rattle.lot_report.proofs.FedLemmas.{fed_with, report_cut, report_ends}
use Rattle.lot_report.proofs.HoldingLemmas.{end_is}
use Rattle.lot_report.proofs.holdings.Holdings.end.Goals as goal

pub returns-in-Ok-clause-text : goal.returns-in-Ok-clause-text
returns-in-Ok-clause-text g c rows start fed before =
    let taken = fed_with fits HasTaken rows c.args.self.progress c.in-Some.progress fed c.in-Some.is in
    report_ends row_lines fits IsEnd rows _ start _ _ tt fed.0 (end_is rows c.in-Some.progress taken) before c.in-Ok.ensures.lines

pub returns-clause-text : goal.returns-clause-text
returns-clause-text g c rows start fed before =
    let taken = fed_with fits HasTaken rows c.args.self.progress c.in-Some.progress fed c.in-Some.is in
    rw (c.from.ensures)
    (report_cut row_lines fits IsEnd rows _ start _ _ c.in-Err.fault (end_is rows c.in-Some.progress taken) before c.in-Err.ensures.lines)

use Rattle.std.proofs.Common.{Err, Ok, [], refl}
use Rattle.lot_report.specs.Holdings.{HasTaken, fits, holding_row, row_lines}
use Rattle.lot_report.proofs.FedLemmas.{one_line, row_cut, row_uncounted}
use Rattle.lot_report.proofs.holdings.HoldingSums.row.Goals as goal

pub returns-in_err-count-clause-takes : goal.returns-in_err-count-clause-takes
returns-in_err-count-clause-takes g c rows taken =
    row_uncounted row_lines fits HasTaken rows c.args.row.now c.count.new.self _ (holding_row c.args.row.now) [] c.in_err-count.field-0.0
    c.from_residual.result refl (c.in_err-count.ensures.counts rows taken) c.from_residual.ensures.1

pub returns-in_err-print_row-clause-takes : goal.returns-in_err-print_row-clause-takes
returns-in_err-print_row-clause-takes g c rows taken =
    row_cut row_lines fits HasTaken rows c.args.row.now c.count.new.self _ _ c.in_err-print_row.field-0.0 c.from_residual-in_err-print_row.result
    (c.in_ok-count.ensures.counts rows taken).0
    (one_line (holding_row c.args.row.now) _ _ (Err c.in_err-print_row.field-0.0) c.in_err-print_row.ensures.line)
    c.from_residual-in_err-print_row.ensures.1

pub returns-clause-takes : goal.returns-clause-takes
returns-clause-takes g c rows taken =
    let (fit, kept) = c.in_ok-count.ensures.counts rows taken in
    (fit, kept, one_line (holding_row c.args.row.now) _ _ (Ok tt) c.in_ok-print_row.ensures.line)

use Rattle.std.proofs.Common.{map, refl}
use Rattle.lot_report.specs.Gains.{HasTaken, fits, gained, leg_line, sale_line, sale_lines}
use Rattle.lot_report.proofs.FedLemmas.{row_cut, row_uncounted}
use Rattle.lot_report.proofs.gains.GainSums.row.Goals as goal

pub returns-in_err-take_gain-clause-takes : goal.returns-in_err-take_gain-clause-takes
returns-in_err-take_gain-clause-takes g c sales taken =
    let sale = c.args.sale.now in
    row_uncounted sale_lines fits HasTaken sales sale c.take_gain.new.self _ (sale_line sale (gained sale))
    (map (leg_line sale.commodity) sale.legs) c.in_err-take_gain.field-0.0 c.from_residual.result
    refl (c.in_err-take_gain.ensures.counts sales taken) c.from_residual.ensures.1

pub returns-in_err-print_sale-clause-takes : goal.returns-in_err-print_sale-clause-takes
returns-in_err-print_sale-clause-takes g c sales taken =
    row_cut sale_lines fits HasTaken sales c.args.sale.now c.take_gain.new.self _ _ c.in_err-print_sale.field-0.0 c.from_residual-in_err-print_sale.result
    (c.in_ok-take_gain.ensures.counts sales taken).0 c.in_err-print_sale.ensures.lines c.from_residual-in_err-print_sale.ensures.1

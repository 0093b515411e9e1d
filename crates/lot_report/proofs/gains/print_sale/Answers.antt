use Rattle.std.proofs.Common.{Err, Ok, [], ◌∷◌, map}
use Rattle.std.proofs.lemmas.Result.{err_from_is_err_and}
use Rattle.lot_report.proofs.FedLemmas.{lines_follow, lines_of_items, lines_stop, one_line}
use Rattle.lot_report.specs.Gains.{gained, leg_line, sale_line}
use Rattle.lot_report.proofs.OutputLemmas.{none_then}
use Rattle.lot_report.proofs.gains.print_sale.Goals as goal

pub returns-clause-lines : goal.returns-clause-lines
returns-clause-lines g c =
    let sale = c.args.sale.now in
    lines_follow (sale_line sale (gained sale) ∷ []) (map (leg_line sale.commodity) sale.legs) _ _ _ _
    (one_line _ _ _ (Ok tt) c.in_ok-print_front.ensures.line)
    (lines_of_items (leg_line sale.commodity) _ _ _ _ c.print_legs.ensures.lines)

pub returns-in_err-print_front-clause-lines : goal.returns-in_err-print_front-clause-lines
returns-in_err-print_front-clause-lines g c =
    let sale = c.args.sale.now in
    let fault = err_from_is_err_and c.from_residual.result c.from_residual.ensures.1 in
    rw (fault.1, fault.2)
    (lines_stop (sale_line sale (gained sale) ∷ []) (map (leg_line sale.commodity) sale.legs) _ _ c.in_err-print_front.field-0.0
    (one_line _ _ _ (Err c.in_err-print_front.field-0.0) c.in_err-print_front.ensures.line))

pub returns-clause-none_failed : goal.returns-clause-none_failed
returns-clause-none_failed g c = none_then c.print_legs.result _ _ _ c.in_ok-print_front.ensures.none_failed c.print_legs.ensures.none_failed

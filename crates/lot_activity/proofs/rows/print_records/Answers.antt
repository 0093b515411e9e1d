use Rattle.std.proofs.lemmas.Result.{err_from_is_err_and}
use Rattle.lot_report.proofs.OutputLemmas.{none_then}
use Rattle.lot_activity.proofs.TextLemmas.{header_and_rows, header_stops}
use Rattle.lot_activity.proofs.rows.print_records.Goals as goal

pub returns-in_err-print_texts-clause-lines : goal.returns-in_err-print_texts-clause-lines
returns-in_err-print_texts-clause-lines g c =
    let fault = err_from_is_err_and c.from_residual.result c.from_residual.ensures.1 in
    rw (fault.1, fault.2)
    (header_stops c.args.rows.now.entries _ _ c.in_err-print_texts.field-0.0 c.in_err-print_texts.ensures.bytes)

pub returns-clause-lines : goal.returns-clause-lines
returns-clause-lines g c =
    header_and_rows c.args.rows.now.entries _ _ _ _ c.in_ok-print_texts.ensures.bytes c.print_rows.ensures.rows

pub returns-clause-none_failed : goal.returns-clause-none_failed
returns-clause-none_failed g c = none_then c.print_rows.result _ _ _ c.in_ok-print_texts.ensures.none_failed c.print_rows.ensures.none_failed

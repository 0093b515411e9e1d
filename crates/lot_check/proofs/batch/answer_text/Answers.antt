use Rattle.std.proofs.Common.{Err, ap}
use Rattle.std.proofs.lemmas.Result.{err_from_is_err_and}
use Rattle.lot_check.proofs.AnswerLemmas.{run_stopped, rows_stopped, report_stopped, reaches_the_end, text_stopped}
use Rattle.lot_check.proofs.CauseLemmas.{memory_is_not, report_is, text_is_not}
use Rattle.lot_check.proofs.batch.answer_text.Goals as goal

pub returns-in_err-commands-clause-reaches : goal.returns-in_err-commands-clause-reaches
returns-in_err-commands-clause-reaches g c =
    text_stopped _ (g.W.CountedWrite.calls c.args.writer.now) _ c.in_err-commands.field-0.0 c.from_residual.result c.requires c.in_err-commands.ensures.fault c.from_residual.ensures.1

pub returns-in_err-view-clause-reaches : goal.returns-in_err-view-clause-reaches
returns-in_err-view-clause-reaches g c =
    let fault = err_from_is_err_and c.from_residual-in_err-view.result c.from_residual-in_err-view.ensures.1 in
    rw (fault.1, fault.2)
    (run_stopped _ _ _ _ _ _ c.requires c.in_ok-commands.ensures.commands c.in_err-view.ensures.runs c.in_err-view.ensures.none_failed)

pub returns-in_err-rows-clause-reaches : goal.returns-in_err-rows-clause-reaches
returns-in_err-rows-clause-reaches g c =
    let fault = err_from_is_err_and c.from_residual-in_err-rows.result c.from_residual-in_err-rows.ensures.1 in
    rw (fault.1, fault.2)
    (rows_stopped _ _ c.in_ok-view.view _ _ _ _ c.requires c.in_ok-commands.ensures.commands c.in_ok-view.ensures.runs c.in_ok-view.ensures.none_failed)

pub returns-in_err-print_holdings-clause-reaches : goal.returns-in_err-print_holdings-clause-reaches
returns-in_err-print_holdings-clause-reaches g c =
    report_stopped _ _ c.in_ok-view.view _ _ _ _ _ _ c.in_err-print_holdings.field-0.0 c.from_residual-in_err-print_holdings.result c.requires
    c.in_ok-commands.ensures.commands c.in_ok-view.ensures.runs c.in_ok-rows.ensures c.in_err-print_holdings.ensures.report
    c.from_residual-in_err-print_holdings.ensures.1

pub returns-clause-reaches : goal.returns-clause-reaches
returns-clause-reaches g c =
    reaches_the_end _ _ c.in_ok-view.view _ _ _ (g.W.CountedWrite.calls c.run.new.writer) _ _ _ _ tt c.requires c.in_ok-commands.ensures.commands
    c.in_ok-view.ensures.runs c.in_ok-view.ensures.none_failed c.in_ok-rows.ensures c.in_ok-print_holdings.ensures.report
    c.in_ok-print_holdings.ensures.none_failed

pub returns-in_err-commands-clause-cause : goal.returns-in_err-commands-clause-cause
returns-in_err-commands-clause-cause g c = text_is_not c.from_residual.result c.in_err-commands.field-0.0 _ c.from_residual.ensures.1

pub returns-in_err-rows-clause-cause : goal.returns-in_err-rows-clause-cause
returns-in_err-rows-clause-cause g c = memory_is_not c.from_residual-in_err-rows.result _ c.from_residual-in_err-rows.ensures.1

pub returns-in_err-print_holdings-clause-cause : goal.returns-in_err-print_holdings-clause-cause
returns-in_err-print_holdings-clause-cause g c = λ write.
    c.in_err-print_holdings.ensures.cause
    (ap Err (report_is c.from_residual-in_err-print_holdings.result c.in_err-print_holdings.field-0.0 c.from_residual-in_err-print_holdings.ensures.1 write))

-- The line has no form, or a part of it is outside its rule, or it says the command.
use Rattle.std.proofs.Common.{Err, ap}
use Rattle.std.proofs.lemmas.Result.{err_from_is_err_and}
use Rattle.lot_read.proofs.StatementLemmas.{gives_header_fault, gives_command_fault}
use Rattle.lot_read.proofs.line.command.Goals as goal

pub returns-in_err-form : goal.returns-in_err-form
returns-in_err-form c =
    let p = err_from_is_err_and c.from_residual.result c.from_residual.ensures.1 in
    rw (p.1, p.2)
    (λ may_post line of. gives_header_fault may_post line c.args.tokens.now c.in_err-form.field-0.0 of
    (λ e. c.in_err-form.ensures.unknown (ap Err e)) (λ e. c.in_err-form.ensures.known (ap Err e)) c.in_err-form.ensures.none)

pub returns-in_err-command : goal.returns-in_err-command
returns-in_err-command c =
    let p = err_from_is_err_and c.from_residual-in_err-command.result c.from_residual-in_err-command.ensures.1 in
    rw (p.1, p.2)
    (λ may_post line of. gives_command_fault may_post line c.args.tokens.now c.in_ok-form.form.day.now _ c.in_err-command.field-0.0 of
    c.in_ok-form.ensures.is (λ fault e. c.in_err-command.ensures.outside fault (ap Err e)) (λ e. c.in_err-command.ensures.memory (ap Err e)))

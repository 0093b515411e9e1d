use Rattle.std.specs.Prelude.{Err, true}
use Rattle.std.specs.Io.KnownBytes.{Appends}
use Rattle.std.proofs.Common.{◌∙◌, ap, subst, sym}
use Rattle.std.proofs.lemmas.Result.{err_from_is_err_and}
use Rattle.lot_report.specs.Written.{WritesLine}
use Rattle.lot_report.proofs.OutputLemmas.{line_of_writer}
use Rattle.lot_register.specs.Text.{row_text}
use Rattle.lot_register.proofs.RowLemmas.{never_of_writer, row_fails, row_passed, row_unfit, row_written, with_lefts}
use Rattle.lot_register.proofs.register.Register.row.Goals as goal

pub returns-in_err-left-clause-takes : goal.returns-in_err-left-clause-takes
returns-in_err-left-clause-takes g c terms legs taken =
    let fault = err_from_is_err_and c.from_residual.result c.from_residual.ensures.1 in
    rw (fault.1, fault.2)
    (row_unfit terms legs c.args.leg.now (with_lefts c.args.self.now c.add.new.self c.args.self.now.has_rows) c.add.new.self _ c.in_err-left.field-0.0
    (c.in_err-left.ensures.leaves legs taken.3))

pub returns-in_err-left-clause-cause : goal.returns-in_err-left-clause-cause
returns-in_err-left-clause-cause g c =
    never_of_writer c.from_residual.result c.in_err-left.field-0.0 _ c.from_residual.ensures.1 c.in_err-left.ensures.cause

pub returns-then-not-is_from-clause-takes : goal.returns-then-not-is_from-clause-takes
returns-then-not-is_from-clause-takes g c terms legs taken =
    let added = c.in_ok-left.ensures.leaves legs taken.3 in
    row_passed terms legs c.args.leg.now c.args.self.now c.add.new.self taken added.0 added.2 _ (sym c.is_from.ensures ∙ c.if-not-is_from.true)

pub returns-in_err-print_row-clause-takes : goal.returns-in_err-print_row-clause-takes
returns-in_err-print_row-clause-takes g c terms legs taken =
    let added = c.in_ok-left.ensures.leaves legs taken.3 in
    let fault = err_from_is_err_and c.from_residual-in_err-print_row.result c.from_residual-in_err-print_row.ensures.1 in
    rw (fault.1, fault.2)
    (row_fails terms legs c.args.leg.now c.args.self.now c.add.new.self taken added.0 added.2 (with_lefts c.args.self.now c.add.new.self true) _ _
    c.in_err-print_row.field-0.0 (sym c.is_from.ensures ∙ c.if-not-is_from.false)
    (subst
    (λ left. WritesLine (g.W.CountedWrite.contents c.args.writer.now) (g.W.CountedWrite.contents c.print_row.new.writer) (Err c.in_err-print_row.field-0.0)
    (row_text c.args.self.now.form (record { leg = c.args.leg.now; left = left })))
    added.1 c.in_err-print_row.ensures.line))

pub returns-in_err-print_row-clause-cause : goal.returns-in_err-print_row-clause-cause
returns-in_err-print_row-clause-cause g c =
    λ write. c.in_err-print_row.ensures.cause
    (ap Err (line_of_writer c.from_residual-in_err-print_row.result c.in_err-print_row.field-0.0 c.from_residual-in_err-print_row.ensures.1 write))

pub returns-clause-takes : goal.returns-clause-takes
returns-clause-takes g c terms legs taken =
    let added = c.in_ok-left.ensures.leaves legs taken.3 in
    row_written terms legs c.args.leg.now c.args.self.now c.add.new.self taken added.0 added.2 _ _ (sym c.is_from.ensures ∙ c.if-not-is_from.false)
    (subst
    (λ left. Appends (g.W.CountedWrite.contents c.args.writer.now) (g.W.CountedWrite.contents c.print_row.new.writer)
    (row_text c.args.self.now.form (record { leg = c.args.leg.now; left = left })))
    added.1 c.in_ok-print_row.ensures.line)

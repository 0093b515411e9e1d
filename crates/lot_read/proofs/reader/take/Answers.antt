-- What the line says is added, or nothing is.
use Rattle.std.proofs.Common.{Some, [], ◌∷◌, ◌++◌, ap, ◌∙◌}
use Rattle.std.proofs.lemmas.Result.{err_from_is_err_and}
use Rattle.lot_read.specs.Text.{takes_posting}
use Rattle.lot_read.specs.declared.statement.Statement.TheVariants.{Begins, Posts}
use Rattle.lot_read.specs.Reading.{may_post}
use Rattle.lot_read.proofs.SaidLemmas.{continues_none, continues_command, continues_posting}
use Rattle.lot_read.proofs.StatementLemmas.{stops_line, stops_memory}
use Rattle.lot_read.proofs.reader.take.Goals as goal

pub returns-in_err-statement-clause-fault : goal.returns-in_err-statement-clause-fault
returns-in_err-statement-clause-fault c =
    let p = err_from_is_err_and c.from_residual.result c.from_residual.ensures.1 in
    rw (p.1, p.2)
    (stops_line (may_post c.context_behind.result) c.args.line.now c.args.commands.now.items c.in_err-statement.field-0.0
    (c.context_behind.ensures ∙ ap takes_posting c.deref.ensures.value) c.in_err-statement.ensures)

pub returns-in_err-push-in-Some-Begins-clause-fault :
    goal.returns-in_err-push-in-Some-Begins-clause-fault
returns-in_err-push-in-Some-Begins-clause-fault c =
    let p = err_from_is_err_and c.from_residual-in_err-push-in-Some-Begins.result c.from_residual-in_err-push-in-Some-Begins.ensures.1 in
    let says = rw (c.in-Some-Begins.is, c.in-Some-Begins.field-0-is) at c.in_ok-statement.ensures in
    rw (p.1, p.2)
    (stops_memory (may_post c.context_behind.result) c.args.line.now (Some (Begins c.in-Some-Begins.command)) c.args.commands.now.items
    (c.context_behind.ensures ∙ ap takes_posting c.deref.ensures.value) says)

pub returns-in_err-post-in-Some-Posts-clause-fault :
    goal.returns-in_err-post-in-Some-Posts-clause-fault
returns-in_err-post-in-Some-Posts-clause-fault c =
    let p = err_from_is_err_and c.from_residual-in_err-post-in-Some-Posts.result c.from_residual-in_err-post-in-Some-Posts.ensures.1 in
    let says = rw (c.in-Some-Posts.is, c.in-Some-Posts.field-0-is) at c.in_ok-statement.ensures in
    rw (p.1, p.2)
    (stops_memory (may_post c.context_behind.result) c.args.line.now (Some (Posts c.in-Some-Posts.posting)) c.args.commands.now.items
    (c.context_behind.ensures ∙ ap takes_posting c.deref.ensures.value) says)

pub returns-in-None-clause-ok : goal.returns-in-None-clause-ok
returns-in-None-clause-ok c =
    let says = rw c.in-None.is at c.in_ok-statement.ensures in
    continues_none c.args.line.now c.args.commands.now.items says.0

pub returns-in_ok-push-in-Some-Begins-clause-ok : goal.returns-in_ok-push-in-Some-Begins-clause-ok
returns-in_ok-push-in-Some-Begins-clause-ok c =
    let says = rw (c.in-Some-Begins.is, c.in-Some-Begins.field-0-is) at c.in_ok-statement.ensures in
    continues_command c.args.line.now c.in-Some-Begins.command c.args.commands.now.items c.push.new.self.items says.0
    (c.in_ok-push-in-Some-Begins.ensures.items ∙ ap (λ items. items ++ c.in-Some-Begins.command ∷ []) c.end_last.ensures)

pub returns-in_ok-post-in-Some-Posts-clause-ok : goal.returns-in_ok-post-in-Some-Posts-clause-ok
returns-in_ok-post-in-Some-Posts-clause-ok c =
    let says = rw (c.in-Some-Posts.is, c.in-Some-Posts.field-0-is) at c.in_ok-statement.ensures in
    continues_posting c.args.line.now c.in-Some-Posts.posting c.args.commands.now.items _ says.0 c.in_ok-post-in-Some-Posts.ensures

use Rattle.std.proofs.Common.{◌∙◌, sym}
use Rattle.std.proofs.lemmas.Result.{err_from_is_err_and}
use Rattle.sqlite.specs.Held.{state}
use Rattle.lot_store.proofs.OutputLemmas.{err_out}
use Rattle.lot_store.proofs.RunLemmas.{reply_cut, reply_stops}
use Rattle.lot_store.proofs.book.Book.reply.Goals as goal

pub returns-in_err-write_reply-in-Ok-clause-replies : goal.returns-in_err-write_reply-in-Ok-clause-replies
returns-in_err-write_reply-in-Ok-clause-replies g c =
    let fault = err_from_is_err_and c.from_residual.result c.from_residual.ensures.1 in
    rw (fault.1, fault.2)
    (reply_cut c.args.kept.now c.apply.new.kept c.args.key.now c.args.command.now c.args.number (state g.S.Store c.args.self.now.conn) (state g.S.Store c.apply.new.self.conn) _ _ c.apply.new.self.condition c.apply.result c.apply.ensures.applies
    (record { device = c.apply.ensures.device; in_doubt = c.apply.ensures.in_doubt; damage = c.apply.ensures.damage; unpaired = c.apply.ensures.unpaired }) c.apply.ensures.text c.apply.ensures.condition _
    c.in-Ok.verdict c.in-Ok.is c.in_err-write_reply-in-Ok.ensures.line)

pub returns-in_err-write_reply-in-Ok-clause-output : goal.returns-in_err-write_reply-in-Ok-clause-output
returns-in_err-write_reply-in-Ok-clause-output g c =
    err_out c.from_residual.result _ _ _ c.from_residual.ensures.1 c.in_err-write_reply-in-Ok.ensures.output

pub returns-in-Err-clause-replies : goal.returns-in-Err-clause-replies
returns-in-Err-clause-replies g c =
    reply_stops c.args.kept.now c.apply.new.kept c.args.key.now c.args.command.now c.args.number (state g.S.Store c.args.self.now.conn) (state g.S.Store c.apply.new.self.conn) _ _ c.apply.new.self.condition c.apply.result c.apply.ensures.applies
    (record { device = c.apply.ensures.device; in_doubt = c.apply.ensures.in_doubt; damage = c.apply.ensures.damage; unpaired = c.apply.ensures.unpaired }) c.apply.ensures.text c.apply.ensures.condition _
    c.in-Err.fault c.in-Err.is c.apply.ensures.usable c.stop.ensures.line

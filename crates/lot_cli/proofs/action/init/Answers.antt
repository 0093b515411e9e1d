use Rattle.std.proofs.Common.{None, refl, subst, sym}
use Rattle.sqlite.specs.Held.{state}
use Rattle.lot_stream.specs.declared.status.Status.TheVariants.{Accepted}
use Rattle.lot_cli.specs.Init.{Makes, ready_line}
use Rattle.lot_cli.proofs.HaltLemmas.{failed_before, said}
use Rattle.lot_cli.proofs.InitLemmas.{makes, makes_none}
use Rattle.lot_cli.proofs.action.init.Goals as goal

pub returns-in-Ok-clause-makes : goal.returns-in-Ok-clause-makes
returns-in-Ok-clause-makes g c =
    subst (λ conn. Makes (state g.S.Store c.args.conn) (state g.S.Store conn) (g.W.CountedWrite.contents c.args.writer.now) (g.W.CountedWrite.contents c.tell.new.writer) (record { before = g.W.CountedWrite.calls c.args.writer.now; after = g.W.CountedWrite.calls c.tell.new.writer }) (record { status = c.tell.result; halt = None }))
    (sym c.into_connection.ensures.same)
    (makes (state g.S.Store c.args.conn) (state g.S.Store c.in-Ok.book.conn) _ _ (record { before = g.W.CountedWrite.calls c.args.writer.now; after = g.W.CountedWrite.calls c.tell.new.writer }) (record { status = c.tell.result; halt = None }) c.in-Ok.ensures.made c.in-Ok.ensures.committed c.in-Ok.ensures.empty c.in-Ok.ensures.crash_ok (
      said ready_line Accepted _ _ _ _ _ _ c.print_texts-printed.result c.tell.result c.print_texts-printed.ensures.bytes c.tell.ensures.kept c.print_texts-printed.ensures.none_failed
          (failed_before g.W.CountedWrite.calls c.print_texts-printed.new.writer c.tell.new.writer c.print_texts-printed.result c.print_texts-printed.ensures.cause c.tell.ensures.unasked)
          c.tell.ensures.end,
      refl,
    ))

pub returns-in-Err-clause-makes : goal.returns-in-Err-clause-makes
returns-in-Err-clause-makes g c =
    subst (λ conn. Makes (state g.S.Store c.args.conn) (state g.S.Store conn) (g.W.CountedWrite.contents c.args.writer.now) (g.W.CountedWrite.contents c.not_made.new.writer) (record { before = g.W.CountedWrite.calls c.args.writer.now; after = g.W.CountedWrite.calls c.not_made.new.writer }) (record { status = c.not_made.result.status; halt = c.not_made.result.halt }))
    (sym c.not_made.ensures.same)
    (makes_none (state g.S.Store c.args.conn) (state g.S.Store c.in-Err.left.conn) _ _ (record { before = g.W.CountedWrite.calls c.args.writer.now; after = g.W.CountedWrite.calls c.not_made.new.writer }) c.in-Err.left.fault (record { status = c.not_made.result.status; halt = c.not_made.result.halt }) c.in-Err.ensures.refused c.in-Err.ensures.other c.in-Err.ensures.handed_back c.in-Err.ensures.kept c.in-Err.ensures.crash_err
    c.not_made.ensures.says)

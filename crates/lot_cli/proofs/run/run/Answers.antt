-- The book is taken up, and the commands are run on it as it was before the look; or it is left.
use Rattle.std.proofs.Common.{◌∙◌, None, ap, not, subst, sym}
use Rattle.std.specs.Option.{option_copied}
use Rattle.sqlite.specs.Held.{state}
use Rattle.lot_args.specs.declared.action.Keeping.{Keeping}
use Rattle.lot_args.specs.declared.action.Keeping.TheVariants.{AllOrNone, Each}
use Rattle.lot_atomic.specs.Replies.{RunsAll}
use Rattle.lot_io.specs.Writes.{WritesMade}
use Rattle.lot_stream.specs.Status.{code_of}
use Rattle.lot_cli.specs.Runs.{RunsOn}
use Rattle.lot_cli.proofs.RunLemmas.{left_alone, runs_each}
use Rattle.lot_cli.proofs.WholeLemmas.{runs_whole}
use Rattle.lot_store.proofs.RunLemmas.{leaves_what_stands}
use Rattle.lot_cli.proofs.run.run.Goals as goal

pub returns-in-Each-clause-runs : goal.returns-in-Each-clause-runs
returns-in-Each-clause-runs g c =
    let calls : WritesMade = record { before = g.W.CountedWrite.calls c.args.writer.now; after = g.W.CountedWrite.calls c.run_each-status.new.writer } in
    subst (λ (keeping : Keeping). RunsOn (option_copied c.args.rounding) keeping c.args.numbers.now c.args.commands.now (state g.S.Store c.args.conn) (state g.S.Store c.ended.result.conn) (g.W.CountedWrite.contents c.args.writer.now) (g.W.CountedWrite.contents c.run_each-status.new.writer) calls (record { status = c.ended.result.status; halt = c.ended.result.halt })) (sym c.in-Each.is)
    (subst (λ halt. RunsOn (option_copied c.args.rounding) Each c.args.numbers.now c.args.commands.now (state g.S.Store c.args.conn) (state g.S.Store c.ended.result.conn) (g.W.CountedWrite.contents c.args.writer.now) (g.W.CountedWrite.contents c.run_each-status.new.writer) calls (record { status = c.ended.result.status; halt = halt })) (sym c.ended.ensures.goes_on)
    (subst (λ conn. RunsOn (option_copied c.args.rounding) Each c.args.numbers.now c.args.commands.now (state g.S.Store c.args.conn) (state g.S.Store conn) (g.W.CountedWrite.contents c.args.writer.now) (g.W.CountedWrite.contents c.run_each-status.new.writer) calls (record { status = c.ended.result.status; halt = None })) (sym (c.ended.ensures.same ∙ c.into_connection.ensures.same))
    (runs_each (option_copied c.args.rounding) c.args.numbers.now c.args.commands.now (state g.S.Store c.args.conn) (state g.S.Store c.in-Ok.book.conn) (state g.S.Store c.run_each-status.new.book.conn) _ _ calls c.run_each-status.ensures.runs.0 c.ended.result.status
    c.in-Ok.ensures.taken c.in-Ok.ensures.same c.in-Ok.ensures.crash_ok c.run_each-status.ensures.runs.1 (c.ended.ensures.status ∙ ap code_of c.run_each-status.ensures.runs.2))))

pub returns-in-AllOrNone-clause-runs : goal.returns-in-AllOrNone-clause-runs
returns-in-AllOrNone-clause-runs g c =
    let calls : WritesMade = record { before = g.W.CountedWrite.calls c.args.writer.now; after = g.W.CountedWrite.calls c.run_all-end.new.writer } in
    subst (λ (keeping : Keeping). RunsOn (option_copied c.args.rounding) keeping c.args.numbers.now c.args.commands.now (state g.S.Store c.args.conn) (state g.S.Store c.ended-in-AllOrNone.result.conn) (g.W.CountedWrite.contents c.args.writer.now) (g.W.CountedWrite.contents c.run_all-end.new.writer) calls (record { status = c.ended-in-AllOrNone.result.status; halt = c.ended-in-AllOrNone.result.halt })) (sym c.in-AllOrNone.is)
    (subst (λ halt. RunsOn (option_copied c.args.rounding) AllOrNone c.args.numbers.now c.args.commands.now (state g.S.Store c.args.conn) (state g.S.Store c.ended-in-AllOrNone.result.conn) (g.W.CountedWrite.contents c.args.writer.now) (g.W.CountedWrite.contents c.run_all-end.new.writer) calls (record { status = c.ended-in-AllOrNone.result.status; halt = halt })) (sym c.ended-in-AllOrNone.ensures.goes_on)
    (subst (λ conn. RunsOn (option_copied c.args.rounding) AllOrNone c.args.numbers.now c.args.commands.now (state g.S.Store c.args.conn) (state g.S.Store conn) (g.W.CountedWrite.contents c.args.writer.now) (g.W.CountedWrite.contents c.run_all-end.new.writer) calls (record { status = c.ended-in-AllOrNone.result.status; halt = None })) (sym c.ended-in-AllOrNone.ensures.same)
    (runs_whole (option_copied c.args.rounding) c.args.numbers.now c.args.commands.now (state g.S.Store c.args.conn) (state g.S.Store c.in-Ok.book.conn) (state g.S.Store c.run_all-end.new.conn) _ _ calls c.run_all-end.result c.ended-in-AllOrNone.result.status
    c.in-Ok.ensures.taken c.in-Ok.ensures.same c.in-Ok.ensures.crash_ok
    (leaves_what_stands (state g.S.Store c.args.conn) (λ clean opened. c.is_autocommit-settled.ensures.settled (c.is_autocommit-settled.ensures.value ∙ ap not c.requires.outside) opened)
    (λ opened trees may. g.met.S.Store.settled c.args.conn.store trees opened may))
    c.run_all-end.ensures.safe
    (subst (λ conn. RunsAll (option_copied c.args.rounding) c.args.commands.now c.args.numbers.now (state g.S.Store conn) (state g.S.Store c.run_all-end.new.conn) (g.W.CountedWrite.contents c.args.writer.now) (g.W.CountedWrite.contents c.run_all-end.new.writer) c.run_all-end.result)
    c.into_connection-conn.ensures.same c.run_all-end.ensures.runs)
    c.run_all-end.ensures.output (c.ended-in-AllOrNone.ensures.status ∙ ap code_of c.status_of_run.ensures))))

pub returns-in-Err-clause-runs : goal.returns-in-Err-clause-runs
returns-in-Err-clause-runs g c =
    subst (λ conn. RunsOn (option_copied c.args.rounding) c.args.keeping c.args.numbers.now c.args.commands.now (state g.S.Store c.args.conn) (state g.S.Store conn) (g.W.CountedWrite.contents c.args.writer.now) (g.W.CountedWrite.contents c.halted.new.writer) (record { before = g.W.CountedWrite.calls c.args.writer.now; after = g.W.CountedWrite.calls c.halted.new.writer }) (record { status = c.halted.result.status; halt = c.halted.result.halt }))
    (sym c.halted.ensures.same)
    (left_alone (option_copied c.args.rounding) c.args.keeping c.args.numbers.now c.args.commands.now (state g.S.Store c.args.conn) (state g.S.Store c.in-Err.field-0.conn) _ _ _ c.in-Err.field-0.fault (record { status = c.halted.result.status; halt = c.halted.result.halt })
    c.in-Err.ensures.tells_err c.in-Err.ensures.refused c.in-Err.ensures.handed_back c.in-Err.ensures.undone c.in-Err.ensures.crash_err
    c.halted.ensures.says)

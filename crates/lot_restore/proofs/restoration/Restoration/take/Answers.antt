-- The command is left out, or judged and said; or why it isn't judged.
use Rattle.std.proofs.Common.{◌∙◌, arith, inl, inr, refl, sym}
use Rattle.std.proofs.lemmas.Result.{err_from_is_err_and}
use Rattle.sqlite.specs.Held.{state}
use Rattle.lot_load.specs.Kept.{IsOf}
use Rattle.lot_restore.proofs.SoFarLemmas.{comes_to, judge_fails, judges_more, leaves_out}
use Rattle.lot_restore.proofs.StoppedLemmas.{cut_some}
use Rattle.lot_restore.proofs.restoration.Restoration.take.Goals as goal

pub returns-then-is_left_out-clause-goes_on : goal.returns-then-is_left_out-clause-goes_on
returns-then-is_left_out-clause-goes_on g c place start done rise so =
    leaves_out place start (g.W.CountedWrite.contents c.args.writer.now) done c.args.dumped.now c.args.self.now _ (state g.S.Store c.args.tx.now.conn.now)
    so (sym c.is_left_out.ensures ∙ c.if-is_left_out.true) refl refl refl c.meet.ensures

pub returns-in_err-verdict-clause-fault : goal.returns-in_err-verdict-clause-fault
returns-in_err-verdict-clause-fault g c =
    let fault = err_from_is_err_and c.from_residual.result c.from_residual.ensures.1 in
    rw (fault.1, fault.2)
    (judge_fails c.args.self.now (IsOf c.judge.new.self.kept) c.args.dumped.now (state g.S.Store c.args.tx.now.conn.now) (state g.S.Store c.judge.new.tx.conn.now)
    (g.W.CountedWrite.calls c.args.writer.now) c.in_err-verdict.field-0.0 c.in_err-verdict.ensures.restores (sym c.is_left_out.ensures ∙ c.if-is_left_out.false))

pub returns-in_err-verdict-clause-said : goal.returns-in_err-verdict-clause-said
returns-in_err-verdict-clause-said g c =
    let fault = err_from_is_err_and c.from_residual.result c.from_residual.ensures.1 in
    rw (fault.1)
    (inl refl)

pub returns-in_err-print_verdict-clause-said : goal.returns-in_err-print_verdict-clause-said
returns-in_err-print_verdict-clause-said g c =
    let fault = err_from_is_err_and c.from_residual-in_err-print_verdict.result c.from_residual-in_err-print_verdict.ensures.1 in
    rw (fault.1)
    (inr (
      sym c.is_left_out.ensures ∙ c.if-is_left_out.false,
      c.in_ok-verdict.verdict,
      comes_to c.args.self.now (IsOf c.judge.new.self.kept) c.args.dumped.now c.in_ok-verdict.verdict (state g.S.Store c.args.tx.now.conn.now)
          (state g.S.Store c.judge.new.tx.conn.now) (sym c.is_left_out.ensures ∙ c.if-is_left_out.false) c.in_ok-verdict.ensures.restores
          (λ clean. omega (arith, clean, c.in_ok-verdict.ensures.restores.crash.clean)),
      cut_some _ _ _ c.in_err-print_verdict.field-0.0 c.in_err-print_verdict.ensures.bytes,
    ))

pub returns-clause-goes_on : goal.returns-clause-goes_on
returns-clause-goes_on g c place start done rise so =
    judges_more place start (g.W.CountedWrite.contents c.args.writer.now) (g.W.CountedWrite.contents c.print_verdict.new.writer) done c.args.dumped.now
    c.in_ok-verdict.verdict c.args.self.now _ (state g.S.Store c.args.tx.now.conn.now) (state g.S.Store c.judge.new.tx.conn.now) so rise
    (sym c.is_left_out.ensures ∙ c.if-is_left_out.false) refl c.in_ok-verdict.ensures.place c.with-self.ensures c.meet.ensures
    c.in_ok-verdict.ensures.restores (λ clean. omega (arith, clean, c.in_ok-verdict.ensures.restores.crash.clean)) c.in_ok-print_verdict.ensures.bytes

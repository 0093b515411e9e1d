-- One command after another is read and judged, up to the end or a fault.
use Rattle.std.proofs.Common.{◌∙◌, Err, arith, refl}
use Rattle.std.proofs.lemmas.Result.{err_from_is_err_and}
use Rattle.sqlite.specs.Held.{state}
use Rattle.lot_restore.specs.declared.fault.RestoreFault.TheVariants.{Text}
use Rattle.lot_rows.proofs.StateLemmas.{survives_same}
use Rattle.lot_parts.specs.declared.step.Sum.{Sum}
use Rattle.lot_parts.proofs.ReadLemmas.{no_calls_fail, no_more_fail}
use Rattle.lot_restore.proofs.LoopLemmas.{broken_on, ends_all, gone_on, keeps_all, none_gone, stops_on, stops_reading}
use Rattle.lot_restore.proofs.StoppedLemmas.{judge_reads, reads_on, says_next, says_so_far}
use Rattle.lot_restore.proofs.restoring.judge_all.Goals as goal

pub returns-in_err-dumped-clause-fails : goal.returns-in_err-dumped-clause-fails
returns-in_err-dumped-clause-fails g c =
    let fault = err_from_is_err_and c.from_residual.result c.from_residual.ensures.1 in
    rw (fault.1, fault.2)
    (stops_reading _ _
    (record { known = g.R.CountedRead.remaining c.next.new.reader; reading = c.next.new.self.dump; written = g.W.CountedWrite.contents c.commands.writer; made = c.commands.restoration; state = state g.S.Store c.commands.tx.conn.now })
    c.commands.invariant.0 (g.W.CountedWrite.calls c.commands.writer) c.in_err-dumped.field-0.0 c.in_err-dumped.ensures.fault)

pub returns-in_err-take-in-Command-clause-fails : goal.returns-in_err-take-in-Command-clause-fails
returns-in_err-take-in-Command-clause-fails g c =
    let fault = err_from_is_err_and c.from_residual-in_err-take-in-Command.result c.from_residual-in_err-take-in-Command.ensures.1 in
    rw (fault.1, fault.2)
    (stops_on _ _ c.commands.invariant.0 (g.R.CountedRead.remaining c.next.new.reader) c.next.new.self.dump c.in-Command.dumped
    (rw c.in-Command.is at c.in_ok-dumped.ensures.goes_on)
    (record { known = g.R.CountedRead.remaining c.next.new.reader; reading = c.next.new.self.dump; written = g.W.CountedWrite.contents c.take.new.writer; made = c.take.new.self; state = state g.S.Store c.take.new.tx.conn.now })
    (g.W.CountedWrite.calls c.take.new.writer) c.in_err-take-in-Command.field-0.0
    c.commands.invariant.1.2 c.take.ensures.crash c.in_err-take-in-Command.ensures.fault)

pub returns-in-End-clause-judges : goal.returns-in-End-clause-judges
returns-in-End-clause-judges g c =
    ends_all _ _ c.commands.invariant.0 (g.R.CountedRead.remaining c.next.new.reader) c.next.new.self.dump c.in-End.sum
    (rw c.in-End.is at c.in_ok-dumped.ensures.goes_on)

pub commands-init : goal.commands-init
commands-init g c = (
  none_gone (record { known = g.R.CountedRead.remaining c.args.reader.now; reading = c.args.commands.now.dump; written = g.W.CountedWrite.contents c.args.writer.now; made = c.args.restoration.now; state = state g.S.Store c.args.tx.now.conn.now }),
  (c.requires.inside, λ clean. keeps_all (state g.S.Store c.args.tx.now.conn.now), survives_same (state g.S.Store c.args.tx.now.conn.now) (λ _. ⊥)),
  refl,
  refl,
  refl,
  no_calls_fail (g.R.CountedRead.calls c.args.reader.now),
)

pub commands-preserved : goal.commands-preserved
commands-preserved g c = (
  gone_on _ _ c.commands.invariant.0 (g.R.CountedRead.remaining c.next.new.reader) c.next.new.self.dump c.in-Command.dumped
      (rw c.in-Command.is at c.in_ok-dumped.ensures.goes_on) (g.W.CountedWrite.contents c.take.new.writer) c.take.new.self
      (state g.S.Store c.take.new.tx.conn.now) c.in_ok-take-in-Command.ensures.goes_on,
  broken_on (state g.S.Store c.args.tx.now.conn.now) (state g.S.Store c.commands.tx.conn.now) (state g.S.Store c.take.new.tx.conn.now)
      c.commands.invariant.1 c.in_ok-take-in-Command.ensures.inside c.take.ensures.kept c.take.ensures.crash,
  c.take.ensures.same_reference ∙ c.commands.invariant.2,
  c.in_ok-take-in-Command.ensures.none_failed ∙ c.commands.invariant.3,
  c.take.ensures.terms ∙ c.commands.invariant.4,
  no_more_fail _ _ _ c.commands.invariant.5 c.in_ok-dumped.ensures.calls,
)

pub returns-in_err-dumped-clause-read : goal.returns-in_err-dumped-clause-read
returns-in_err-dumped-clause-read g c =
    let fault = err_from_is_err_and c.from_residual.result c.from_residual.ensures.1 in
    rw (fault.1, fault.2)
    (reads_on {A = Unit {0}} _ _ _ (Err (Text c.in_err-dumped.field-0.0)) c.commands.invariant.5 c.in_err-dumped.ensures.cause)

pub returns-in_err-dumped-clause-said : goal.returns-in_err-dumped-clause-said
returns-in_err-dumped-clause-said g c =
    let fault = err_from_is_err_and c.from_residual.result c.from_residual.ensures.1 in
    rw (fault.1)
    (says_so_far _ _ c.commands.invariant.0 c.commands.invariant.4 (state g.S.Store c.commands.tx.conn.now) (λ clean. clean))

pub returns-in_err-take-in-Command-clause-read : goal.returns-in_err-take-in-Command-clause-read
returns-in_err-take-in-Command-clause-read g c =
    let fault = err_from_is_err_and c.from_residual-in_err-take-in-Command.result c.from_residual-in_err-take-in-Command.ensures.1 in
    rw (fault.1, fault.2)
    (judge_reads Sum c.commands.restoration c.in-Command.dumped (state g.S.Store c.commands.tx.conn.now) (state g.S.Store c.take.new.tx.conn.now)
    (g.W.CountedWrite.calls c.take.new.writer) c.in_err-take-in-Command.field-0.0 _ _ c.in_err-take-in-Command.ensures.fault
    (no_more_fail _ _ _ c.commands.invariant.5 c.in_ok-dumped.ensures.calls))

pub returns-in_err-take-in-Command-clause-said : goal.returns-in_err-take-in-Command-clause-said
returns-in_err-take-in-Command-clause-said g c =
    let fault = err_from_is_err_and c.from_residual-in_err-take-in-Command.result c.from_residual-in_err-take-in-Command.ensures.1 in
    rw (fault.1)
    (says_next _ _ c.commands.invariant.0 c.commands.invariant.4 (g.R.CountedRead.remaining c.next.new.reader) c.next.new.self.dump c.in-Command.dumped
    (rw c.in-Command.is at c.in_ok-dumped.ensures.goes_on) (g.W.CountedWrite.contents c.take.new.writer) (state g.S.Store c.take.new.tx.conn.now)
    (λ clean. omega (arith, clean, c.take.ensures.crash.clean)) c.in_err-take-in-Command.ensures.said)

pub returns-in-End-clause-read : goal.returns-in-End-clause-read
returns-in-End-clause-read g c = no_more_fail _ _ _ c.commands.invariant.5 c.in_ok-dumped.ensures.calls

pub returns-clause-said : goal.returns-clause-said
returns-clause-said g c =
    says_so_far _ _ c.commands.invariant.0 c.commands.invariant.4 (state g.S.Store c.commands.tx.conn.now) (λ clean. clean)

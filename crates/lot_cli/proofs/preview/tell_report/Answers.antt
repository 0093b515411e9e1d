-- A report is written behind an answer that met no fault.
use Rattle.std.proofs.Common.{◌≡◌, ◌∙◌, inl, inr, true, false, ltb-true, refl}
use Rattle.std.specs.Prelude.{nat_lt}
use Rattle.sqlite.specs.Held.{state}
use Rattle.lot_cli.proofs.PreviewLemmas.{either_status, met_none, never_inside, outside_still, told_on}
use Rattle.lot_cli.specs.Reports.{written_for}
use Rattle.lot_cli.proofs.preview.tell_report.Goals as goal

pub returns-then-met_fault-clause-tells : goal.returns-then-met_fault-clause-tells
returns-then-met_fault-clause-tells g c =
    let met : nat_lt 1 c.args.answered.status ≡ true = cc (c.met_fault.ensures, c.if-met_fault.true) in
    inl (record { fault = ltb-true 1 c.args.answered.status met; same = refl })

pub returns-in-Ok-clause-tells : goal.returns-in-Ok-clause-tells
returns-in-Ok-clause-tells g c =
    let none : nat_lt 1 c.args.answered.status ≡ false = cc (c.met_fault.ensures, c.if-met_fault.false) in
    let shown = c.write_report-status.result in
    inr (inr (record {
      going = met_none c.args.answered.status none;
      shown = record { status = shown.status; halt = shown.halt };
      reports =
          told_on g.S.Store c.args.answered.conn c.in-Ok.conn c.in-Ok.ensures.same (written_for c.args.report.now) (state g.S.Store shown.conn)
          (g.W.CountedWrite.contents c.args.writer.now) (g.W.CountedWrite.contents c.write_report-status.new.writer)
          (record { before = g.W.CountedWrite.calls c.args.writer.now; after = g.W.CountedWrite.calls c.write_report-status.new.writer })
          (record { status = shown.status; halt = shown.halt }) c.write_report-status.ensures.reports;
      status = c.status_behind.ensures;
      halt = refl;
    }))

pub returns-in-Err-clause-tells : goal.returns-in-Err-clause-tells
returns-in-Err-clause-tells g c =
    let none : nat_lt 1 c.args.answered.status ≡ false = cc (c.met_fault.ensures, c.if-met_fault.false) in
    inr (inl (record {
      going = met_none c.args.answered.status none;
      unclean = λ clean.
          never_inside g.S.Store c.args.answered.conn c.in-Err.conn c.in-Err.ensures.inside.0 c.in-Err.ensures.inside.1 (c.requires.outside clean);
      says = c.halted.ensures.says;
    }))

pub returns-in-Err-clause-outside : goal.returns-in-Err-clause-outside
returns-in-Err-clause-outside g c =
    outside_still g.S.Store c.args.answered.conn c.halted.result.conn (c.halted.ensures.same ∙ c.in-Err.ensures.inside.0) c.requires.outside

pub returns-in-Ok-clause-status : goal.returns-in-Ok-clause-status
returns-in-Ok-clause-status g c =
    either_status c.args.answered.status c.write_report-status.result.status c.status_behind.result c.status_behind.ensures
    c.write_report-status.ensures.status

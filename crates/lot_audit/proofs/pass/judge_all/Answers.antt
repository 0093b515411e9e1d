use Rattle.sqlite.specs.Held.{state}
use Rattle.lot_audit.specs.Pass.{HasJudged, HasJudgedAll, HasRead, HasReadAll, SaysPlace}
use Rattle.lot_audit.proofs.PassLemmas.{behind_next, entries_read, entry_read, entry_unread}
use Rattle.lot_audit.proofs.SeenLemmas.{fails_next, passed_on, seen_as, seen_last, seen_next, seen_none, stopped}
use Rattle.lot_audit.proofs.pass.judge_all.Goals as goal

pub entries-init : goal.entries-init
entries-init g c =
    let old = state g.S.Store c.args.conn.now in
    seen_as (SaysPlace c.args.place) (SaysPlace c.args.place) (HasJudged c.new-pass.result) old old (seen_none (SaysPlace c.args.place) old)
    (λ tables has says. c.new-pass.ensures.begins tables says)

pub returns-in_err-row : goal.returns-in_err-row
returns-in_err-row g c = record {
  judges = entry_unread c.args.place c.entries.pass c.next.new.self (state g.S.Store c.args.conn.now) (state g.S.Store c.entries.conn)
      (state g.S.Store c.next.new.conn) c.entries.invariant c.in_err-row.field-0.0 c.from_residual.result c.from_residual.ensures.1
      c.in_err-row.ensures.steps;
}

pub returns-in_default : goal.returns-in_default
returns-in_default g c =
    let old = state g.S.Store c.args.conn.now in
    let mid = state g.S.Store c.next.new.conn in
    let pass = behind_next c.entries.pass c.next.new.self in
    record {
      judges = seen_last (SaysPlace c.args.place) HasJudgedAll (HasReadAll pass) HasJudgedAll (HasReadAll pass) old mid
          (state g.S.Store c.end.new.conn) c.end.result
          (entries_read c.args.place c.entries.pass c.next.new.self old (state g.S.Store c.entries.conn) mid c.entries.invariant
          (rw c.in_default.is at c.in_ok-row.ensures.steps))
          c.end.ensures.ends (λ tables has was. (was, λ answer judged. judged));
    }

pub entries-preserved : goal.entries-preserved
entries-preserved g c =
    let old = state g.S.Store c.args.conn.now in
    let mid = state g.S.Store c.next.new.conn in
    let pass = behind_next c.entries.pass c.next.new.self in
    let row = c.in-Some.row in
    let read =
    entry_read c.args.place c.entries.pass c.next.new.self old (state g.S.Store c.entries.conn) mid c.entries.invariant row
    (rw c.in-Some.is at c.in_ok-row.ensures.steps) in
    seen_next (SaysPlace c.args.place) (HasRead pass row) HasJudged (HasRead pass row) (HasJudged c.in_ok-pass.pass) old mid
    (state g.S.Store c.judge_row.new.conn) c.in_ok-pass.pass read c.in_ok-pass.ensures.judges (λ tables has was. (was, λ judged. judged))

pub returns-in_err-pass : goal.returns-in_err-pass
returns-in_err-pass g c =
    let old = state g.S.Store c.args.conn.now in
    let mid = state g.S.Store c.next.new.conn in
    let pass = behind_next c.entries.pass c.next.new.self in
    let row = c.in-Some.row in
    let read =
    entry_read c.args.place c.entries.pass c.next.new.self old (state g.S.Store c.entries.conn) mid c.entries.invariant row
    (rw c.in-Some.is at c.in_ok-row.ensures.steps) in
    let new = state g.S.Store c.judge_row.new.conn in
    let fault = c.in_err-pass.field-0.0 in
    record {
      judges = passed_on (SaysPlace c.args.place) HasJudgedAll old new fault c.from_residual-in_err-pass.result
          c.from_residual-in_err-pass.ensures.1
          (fails_next (SaysPlace c.args.place) HasJudgedAll (HasRead pass row) HasJudged (HasRead pass row) old mid new fault read
          c.in_err-pass.ensures.judges (λ tables has was. was));
    }

pub returns : goal.returns
returns g c = record {
  judges = stopped (SaysPlace c.args.place) HasJudgedAll (HasJudged c.entries.pass) (state g.S.Store c.args.conn.now)
      (state g.S.Store c.entries.conn) c.entries.invariant;
}

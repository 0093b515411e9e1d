-- Each part behind the one before it.
use Rattle.std.proofs.Common.{arith}
use Rattle.sqlite.specs.Held.{state}
use Rattle.lot_audit.proofs.JudgeBookLemmas.{differs, not_compared, not_judged, place_behind, place_unread, seen_judged, seen_place, verified}
use Rattle.lot_audit.proofs.judge.judge_book.Goals as goal

pub returns-in_err-place : goal.returns-in_err-place
returns-in_err-place g c = record {
  judges = place_unread (state g.S.Store c.args.conn.now) (state g.S.Store c.place_of.new.conn) c.in_err-place.field-0.0 c.from_residual.result
      c.from_residual.ensures.1 c.in_err-place.ensures.says;
}

pub returns-in_err-known : goal.returns-in_err-known
returns-in_err-known g c =
    let old = state g.S.Store c.args.conn.now in
    let one = state g.S.Store c.place_of.new.conn in
    let place = c.in_ok-place.place in
    record {
      judges = not_judged old one (state g.S.Store c.judge_all.new.conn) place (seen_place old one place c.in_ok-place.ensures.says)
          c.in_err-known.field-0.0 c.from_residual-in_err-known.result c.from_residual-in_err-known.ensures.1 c.in_err-known.ensures.judges;
    }

pub returns-then-place-entries : goal.returns-then-place-entries
returns-then-place-entries g c =
    let old = state g.S.Store c.args.conn.now in
    let one = state g.S.Store c.place_of.new.conn in
    let two = state g.S.Store c.judge_all.new.conn in
    let place = c.in_ok-place.place in
    let known = c.in_ok-known.known in
    let seen = seen_judged old one two place (seen_place old one place c.in_ok-place.ensures.says) known c.in_ok-known.ensures.judges in
    let count = rw c.view.ensures at c.entries.ensures in
    record { judges = place_behind old two place known seen (λ within. omega (arith, within, c.if-place-entries.true, count)) }

pub returns-in_err-agree : goal.returns-in_err-agree
returns-in_err-agree g c =
    let old = state g.S.Store c.args.conn.now in
    let one = state g.S.Store c.place_of.new.conn in
    let two = state g.S.Store c.judge_all.new.conn in
    let place = c.in_ok-place.place in
    let known = c.in_ok-known.known in
    let seen = seen_judged old one two place (seen_place old one place c.in_ok-place.ensures.says) known c.in_ok-known.ensures.judges in
    record {
      judges = not_compared old two place known seen (state g.S.Store c.agree.new.conn) c.in_err-agree.field-0.0
          c.from_residual-in_err-agree.result c.from_residual-in_err-agree.ensures.1 c.in_err-agree.ensures.checks;
    }

pub returns-then-not-branch : goal.returns-then-not-branch
returns-then-not-branch g c =
    let old = state g.S.Store c.args.conn.now in
    let one = state g.S.Store c.place_of.new.conn in
    let two = state g.S.Store c.judge_all.new.conn in
    let place = c.in_ok-place.place in
    let known = c.in_ok-known.known in
    let seen = seen_judged old one two place (seen_place old one place c.in_ok-place.ensures.says) known c.in_ok-known.ensures.judges in
    record {
      judges = differs old two place known seen (state g.S.Store c.agree.new.conn) c.in_ok-agree.field-0 c.if-not-branch.true c.in_ok-agree.ensures.checks;
    }

pub returns : goal.returns
returns g c =
    let old = state g.S.Store c.args.conn.now in
    let one = state g.S.Store c.place_of.new.conn in
    let two = state g.S.Store c.judge_all.new.conn in
    let place = c.in_ok-place.place in
    let known = c.in_ok-known.known in
    let seen = seen_judged old one two place (seen_place old one place c.in_ok-place.ensures.says) known c.in_ok-known.ensures.judges in
    let count = rw c.view.ensures at c.entries.ensures in
    record {
      judges = verified old two place known seen (state g.S.Store c.agree.new.conn) c.in_ok-agree.field-0 c.if-not-branch.false
          (omega (arith, c.if-place-entries.false, count)) c.in_ok-agree.ensures.checks;
    }

use Rattle.std.proofs.Common.{arith}
use Rattle.sqlite.specs.Held.{state}
use Rattle.lot_audit.proofs.WithinLemmas.{within_all, within_next, within_not, within_unread}
use Rattle.lot_audit.proofs.compare.legs_are_within.Goals as goal

pub returns-in_err-row : goal.returns-in_err-row
returns-in_err-row g c = record {
  checks = within_unread c.args.entries (state g.S.Store c.args.conn.now) c.legs.legs c.next.new.self (state g.S.Store c.legs.conn)
      (state g.S.Store c.next.new.conn) c.legs.invariant c.in_err-row.field-0.0 c.from_residual.result c.from_residual.ensures.1
      c.in_err-row.ensures.steps;
}

pub returns-in_default : goal.returns-in_default
returns-in_default g c = record {
  checks = within_all c.args.entries (state g.S.Store c.args.conn.now) c.legs.legs c.next.new.self (state g.S.Store c.legs.conn)
      (state g.S.Store c.next.new.conn) c.legs.invariant (rw c.in_default.is at c.in_ok-row.ensures.steps);
}

pub returns-then-number-entries : goal.returns-then-number-entries
returns-then-number-entries g c = record {
  checks = within_not c.args.entries (state g.S.Store c.args.conn.now) c.legs.legs c.next.new.self (state g.S.Store c.legs.conn)
      (state g.S.Store c.next.new.conn) c.legs.invariant c.in-Some.row
      (λ within. omega (arith, within, c.if-number-entries.true, c.number.ensures.value)) (rw c.in-Some.is at c.in_ok-row.ensures.steps);
}

pub legs-preserved : goal.legs-preserved
legs-preserved g c =
    within_next c.args.entries (state g.S.Store c.args.conn.now) c.legs.legs c.next.new.self (state g.S.Store c.legs.conn)
    (state g.S.Store c.next.new.conn) c.legs.invariant c.in-Some.row
    (omega (arith, c.if-number-entries.false, c.number.ensures.value)) (rw c.in-Some.is at c.in_ok-row.ensures.steps)

use Rattle.sqlite.specs.Held.{state}
use Rattle.lot_audit.proofs.PassLemmas.{end_unread, ended, not_ended}
use Rattle.lot_audit.proofs.pass.end.Goals as goal

pub returns-in_err-next : goal.returns-in_err-next
returns-in_err-next g c = record {
  ends = end_unread c.args.pass c.next.new.self (state g.S.Store c.args.conn.now) (state g.S.Store c.next.new.conn) c.in_err-next.field-0.0
      c.from_residual.result c.from_residual.ensures.1 c.in_err-next.ensures.steps;
}

pub returns-in-None : goal.returns-in-None
returns-in-None g c = record {
  ends = ended c.args.pass c.next.new.self (state g.S.Store c.args.conn.now) (state g.S.Store c.next.new.conn)
      (rw c.in-None.is at c.in_ok-next.ensures.steps);
}

pub returns : goal.returns
returns g c = record {
  ends = not_ended c.args.pass c.next.new.self (state g.S.Store c.args.conn.now) (state g.S.Store c.next.new.conn) c.in-Some.field-0
      (rw c.in-Some.is at c.in_ok-next.ensures.steps);
}

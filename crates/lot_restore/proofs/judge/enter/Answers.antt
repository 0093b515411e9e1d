use Rattle.sqlite.specs.Held.{state}
use Rattle.lot_restore.proofs.JudgeLemmas.{enters_first}
use Rattle.lot_restore.proofs.judge.enter.Goals as goal

pub returns-in-First-clause-enters : goal.returns-in-First-clause-enters
returns-in-First-clause-enters g c =
    rw c.in-First.is
    (enters_first c.args.entries c.args.writes.now (state g.S.Store c.args.tx.now.conn.now) (state g.S.Store c.write_all.new.tx.conn.now)
    (state g.S.Store c.put_next.new.tx.conn.now) c.in_ok-write_all.field-0 c.put_next.result c.in_ok-write_all.ensures.writes c.put_next.ensures.puts)

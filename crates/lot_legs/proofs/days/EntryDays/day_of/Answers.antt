use Rattle.sqlite.specs.Held.{state}
use Rattle.lot_legs.proofs.LookLemmas.{finds_known, finds_looked}
use Rattle.lot_legs.proofs.days.EntryDays.day_of.Goals as goal

pub returns-in-Some : goal.returns-in-Some
returns-in-Some g c = record { finds = finds_known c.args.entry c.in-Some.day c.args.self.now (state g.S.Store c.args.conn.now) c.in-Some.ensures }

pub returns-in-None : goal.returns-in-None
returns-in-None g c = record {
  finds =
      finds_looked c.args.entry c.args.self.now c.look_up.new.self (state g.S.Store c.args.conn.now) (state g.S.Store c.look_up.new.conn) c.in-None.ensures c.look_up.result
      c.look_up.ensures.looks;
}

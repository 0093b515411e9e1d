use Rattle.lot_legs.proofs.LookLemmas.{is_known}
use Rattle.lot_legs.proofs.days.EntryDays.known.Goals as goal

pub returns-then-last-entry : goal.returns-then-last-entry
returns-then-last-entry c = is_known c.args.self.now.last c.args.entry c.in-Some.last c.in-Some.is c.if-last-entry.true

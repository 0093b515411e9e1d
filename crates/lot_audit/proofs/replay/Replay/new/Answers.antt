use Rattle.lot_audit.proofs.ReplayLemmas.{replays_none}
use Rattle.lot_audit.proofs.replay.Replay.new.Goals as goal

pub returns-clause-none : goal.returns-clause-none
returns-clause-none c = replays_none c.args.place c.new.result c.new.ensures

use Rattle.std.proofs.Common.{sym}
use Rattle.lot_host.proofs.request.run.Goals as goal

pub returns-in-Ok-clause-run : goal.returns-in-Ok-clause-run
returns-in-Ok-clause-run g c = rw (c.in-Ok.is, sym c.deref.ensures.value) c.run_words.ensures.run

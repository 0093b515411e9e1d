-- The batch has the name of checks.
use Rattle.lot_cli.proofs.crumbs.commands_of.Goals as goal

pub returns-in-Ok-clause-ok : goal.returns-in-Ok-clause-ok
returns-in-Ok-clause-ok g c = rw (c.in-Ok.ensures.ok) at c.keyed_text.ensures.ok

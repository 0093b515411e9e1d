-- A profile that lacks nothing has what its kinds need.
use Rattle.lot_profile_text.proofs.NeedsLemmas.{tables-have}
use Rattle.lot_profile_text.proofs.complete.complete.Goals as goal

pub returns-clause-needs : goal.returns-clause-needs
returns-clause-needs c = tables-have c.args.shape c.args.profile 1 c.args.profile.tables c.in_ok-tables_complete.ensures

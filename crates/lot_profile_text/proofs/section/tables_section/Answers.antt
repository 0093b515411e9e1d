-- The keys are those of the entries.
use Rattle.lot_profile_text.specs.Keys.{tables_keys}
use Rattle.lot_profile_text.proofs.section.tables_section.Goals as goal

pub returns : goal.returns
unfolding tables_keys
returns c = c.section.ensures

-- The keys are those of the entries.
use Rattle.lot_profile_text.specs.Keys.{table_keys}
use Rattle.lot_profile_text.proofs.section.table_section.Goals as goal

pub returns : goal.returns
unfolding table_keys
returns c = c.section.ensures

-- The keys are those of the entries.
use Rattle.lot_profile_text.specs.Keys.{one_table_keys}
use Rattle.lot_profile_text.proofs.section.one_table_section.Goals as goal

pub returns : goal.returns
unfolding one_table_keys
returns c = c.section.ensures

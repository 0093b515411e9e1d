-- The keys are those of the entries.
use Rattle.lot_profile_text.specs.Keys.{currency_signs_key, file_of_tables_keys}
use Rattle.lot_profile_text.proofs.section.file_of_tables_section.Goals as goal

pub returns : goal.returns
unfolding file_of_tables_keys currency_signs_key
returns c = c.section.ensures

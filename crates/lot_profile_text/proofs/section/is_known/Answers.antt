-- One of the entries has the key.
use Rattle.std.proofs.Common.{◌∙◌}
use Rattle.lot_profile_text.proofs.SectionLemmas.{known_entries}
use Rattle.lot_profile_text.proofs.section.is_known.Goals as goal

pub returns : goal.returns
returns c = c.has_key.ensures ∙ known_entries c.args.entries.now c.args.key.now

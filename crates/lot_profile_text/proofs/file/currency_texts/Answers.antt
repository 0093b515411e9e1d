-- The key is that of the entry.
use Rattle.lot_profile_text.specs.Files.{currency_texts_of}
use Rattle.lot_profile_text.specs.Keys.{currency_signs_key}
use Rattle.lot_profile_text.proofs.file.currency_texts.Goals as goal

pub returns : goal.returns
unfolding currency_texts_of currency_signs_key
returns c = c.entry.ensures

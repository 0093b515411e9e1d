use Rattle.lot_print.proofs.ReadLemmas.{commands_read}
use Rattle.lot_print.proofs.laws.canonical_texts_read_as_their_commands.Goals as goal

pub returns : goal.returns
returns c = commands_read

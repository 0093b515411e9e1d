-- A full key says its row, and a digest is no full key.
use Rattle.lot_sequence.proofs.KeyLaws.{differ}
use Rattle.lot_sequence.proofs.laws.keys_differ.Goals as goal

pub returns : goal.returns
returns c = differ

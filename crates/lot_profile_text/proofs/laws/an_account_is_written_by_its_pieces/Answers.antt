-- Piece by piece.
use Rattle.lot_profile_text.proofs.PieceLemmas.{account-written}
use Rattle.lot_profile_text.proofs.laws.an_account_is_written_by_its_pieces.Goals as goal

pub returns : goal.returns
returns c = account-written

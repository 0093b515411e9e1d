use Rattle.lot_import.proofs.KnownLemmas.{known, known_itself}
use Rattle.lot_import.proofs.laws.a_row_is_known_at_other_decimals.Goals as goal

pub returns-clause-others : goal.returns-clause-others
returns-clause-others c accounts decimals earlier row asked t written is of given other = known accounts decimals row asked t is of earlier written given other

pub returns-clause-itself : goal.returns-clause-itself
returns-clause-itself c = known_itself

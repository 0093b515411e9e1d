use Rattle.lot_completion.proofs.OneLemmas.{completion_one}
use Rattle.lot_completion.proofs.laws.there_is_one_completion.Goals as goal

pub returns : goal.returns
returns c ties facts account decimals t cs ds a b first second = completion_one ties facts account decimals t cs ds a b first second

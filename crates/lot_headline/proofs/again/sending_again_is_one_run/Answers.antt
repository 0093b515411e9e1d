use Rattle.lot_headline.proofs.HeadlineLemmas.{one_run}
use Rattle.lot_headline.proofs.again.sending_again_is_one_run.Goals as goal

pub returns : goal.returns
returns c before book commands replied again = one_run before commands replied again book

use Rattle.lot_headline.proofs.CallLemmas.{headline_kept, headline_made}
use Rattle.lot_headline.proofs.headline.calls_keep_the_headline.Goals as goal

pub returns-clause-goes_on : goal.returns-clause-goes_on
returns-clause-goes_on c start = headline_kept

pub returns-clause-made : goal.returns-clause-made
returns-clause-made c start = headline_made

use Rattle.lot_headline.proofs.HeadlineLemmas.{headline, headline_of_made}
use Rattle.lot_headline.proofs.headline.the_headline.Goals as goal

pub returns-clause-made : goal.returns-clause-made
returns-clause-made c = headline_of_made

pub returns-clause-goes_on : goal.returns-clause-goes_on
returns-clause-goes_on c = headline

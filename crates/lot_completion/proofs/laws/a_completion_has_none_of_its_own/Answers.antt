use Rattle.lot_completion.proofs.OwnLemmas.{own_alone, own_completion, own_turn}
use Rattle.lot_completion.proofs.laws.a_completion_has_none_of_its_own.Goals as goal

pub returns-clause-itself : goal.returns-clause-itself
returns-clause-itself c ties facts account other decimals t crumbs completed booked is few books =
    own_completion ties facts account decimals t crumbs completed is other booked few books

pub returns-clause-alone : goal.returns-clause-alone
returns-clause-alone c ties facts account other decimals t crumbs zeros completed again is found =
    own_alone ties facts account decimals t crumbs completed is other zeros again found

pub returns-clause-stays : goal.returns-clause-stays
returns-clause-stays c ties facts account rounding asked t crumbs completed turned is command plain new turn =
    own_turn ties facts account rounding asked t crumbs completed is command plain new turned turn

use Rattle.lot_headline.proofs.HeadlineLemmas.{comes_again, kept_once}
use Rattle.lot_headline.proofs.again.sending_all_or_none_again_acts_once.Goals as goal

pub returns-clause-often : goal.returns-clause-often
returns-clause-often c before book commands sessions = kept_once before commands book sessions

pub returns-clause-comes : goal.returns-clause-comes
returns-clause-comes c before book after commands replied again = comes_again before commands book after replied again

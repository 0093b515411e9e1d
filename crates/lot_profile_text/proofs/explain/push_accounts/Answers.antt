-- They are all words of their kind.
use Rattle.lot_profile_text.specs.Explained.{accounts_explained}
use Rattle.lot_profile_text.proofs.explain.push_accounts.Goals as goal

pub returns : goal.returns
unfolding accounts_explained
returns c = c.push_each.ensures

-- They are all words of their kind.
use Rattle.lot_profile_text.specs.Explained.{roles_explained}
use Rattle.lot_profile_text.proofs.explain.push_roles.Goals as goal

pub returns : goal.returns
unfolding roles_explained
returns c = c.push_each.ensures

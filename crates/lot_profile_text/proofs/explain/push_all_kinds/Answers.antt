-- They are all kinds.
use Rattle.lot_profile_text.specs.Explained.{kinds_explained}
use Rattle.lot_profile_text.proofs.explain.push_all_kinds.Goals as goal

pub returns : goal.returns
unfolding kinds_explained
returns c = rw c.all.ensures at c.push_kinds.ensures

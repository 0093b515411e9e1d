-- The sum is that of what the position held and of the leg.
use Rattle.lot_view.specs.View.{known_with_openings}
use Rattle.lot_posting.proofs.tally.Tally.post.Goals as goal

pub returns-clause-lists : goal.returns-clause-lists
returns-clause-lists c =
    c.in_ok-put.ensures.lists (known_with_openings c.args.view.now) c.requires.lists c.units-before.ensures c.in-Some.ensures.1

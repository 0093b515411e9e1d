-- The crumbs are added to what is known.
use Rattle.lot_call.specs.Sums.{AreSummed}
use Rattle.lot_call.proofs.crumbs.take.Goals as goal

pub returns-in-Ok : goal.returns-in-Ok
returns-in-Ok c amounts h =
    let sums : AreSummed amounts c.in-Some.known.sums = rw c.in-Some.is at h in
    c.in-Ok.ensures amounts sums

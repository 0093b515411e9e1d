use Rattle.lot_sums.proofs.HeldLemmas.{leg_added}
use Rattle.lot_sums.proofs.held.PositionsTallyDatedLeg.take.Goals as goal

pub returns : goal.returns
returns c = λ day legs keeps.
    leg_added day legs c.args.leg c.args.self.now c.add.new.self keeps c.add.result c.add.ensures.adds c.add.ensures.cause

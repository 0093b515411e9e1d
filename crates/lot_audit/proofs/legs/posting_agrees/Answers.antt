-- Where no row is left, all are alike exactly where no leg is left either.
use Rattle.lot_audit.proofs.LegsLemmas.{concludes}
use Rattle.lot_audit.proofs.legs.posting_agrees.Goals as goal

pub returns : goal.returns
returns c =
    concludes c.args.posting c.args.rows.now c.args.legs.now c.rows.row-index c.rows.at c.next_of.result c.rows.invariant.1
    c.rows-test.false c.next_of.ensures.within c.next_of.ensures.skips c.next_of.ensures.found

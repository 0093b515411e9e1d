use Rattle.lot_walk.proofs.SaleRowLemmas.{no_lot}
use Rattle.lot_walk.proofs.gains.legs_at.Goals as goal

pub returns-in_default-clause-damaged : goal.returns-in_default-clause-damaged
returns-in_default-clause-damaged c _ legs same =
    no_lot c.args.rows.now c.rows.row-index c.row-item.result legs c.rows-test.true c.row-item.is c.in_default.is same

-- Where each residual is that of units they are filled; else the first that isn't is refused.
use Rattle.lot_ledger.proofs.FillLemmas.{none-is}
use Rattle.lot_ledger.proofs.fill.fill.Goals as goal

pub fill_exactly-requires-clause-exact : goal.fill_exactly-requires-clause-exact
fill_exactly-requires-clause-exact c = none-is _ c.are_units.result c.are_units.ensures c.if-are_units.true

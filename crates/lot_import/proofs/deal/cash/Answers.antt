-- Where what is kept isn't units, there is no cash.
use Rattle.std.proofs.Common.{subst}
use Rattle.lot_import.specs.Deal.{IsKept}
use Rattle.lot_import.proofs.DealLaws.{no_units}
use Rattle.lot_import.proofs.deal.cash.Goals as goal

pub returns-clause-none : goal.returns-clause-none
returns-clause-none c =
    no_units c.args.decimals c.args.row.now c.kept.result c.to_units.result
    (subst (λ amount. IsKept c.args.decimals amount c.kept.result) c.moved.ensures c.kept.ensures) c.to_units.ensures.every

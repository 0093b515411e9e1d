-- Each crumb is little.
use Rattle.std.proofs.Common.{ℤ, subst, sym}
use Rattle.lot_num.specs.Amount.{IsUnits}
use Rattle.lot_split.specs.Crumbs.{whole_of}
use Rattle.lot_split.proofs.CostLemmas.{crumb_small}
use Rattle.lot_split.proofs.transaction.push_crumbs.Goals as goal

pub push_crumb-requires : goal.push_crumb-requires
push_crumb-requires c =
    let small = crumb_small c.currency-item.result c.args.lots.now c.args.split.now c.requires.divided c.requires.few in
    subst (λ (crumb : ℤ). IsUnits (whole_of crumb)) (sym c.crumb_in-crumb.ensures) small

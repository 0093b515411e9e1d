-- What was kept goes, and what is kept now comes.
use Rattle.std.proofs.Common.{Option, subst}
use Rattle.std.specs.BTreeMap.{BTreeMap}
use Rattle.std.specs.Prelude.{IfSome}
use Rattle.lot_inv.specs.declared.lots.OpenLot.{OpenLot}
use Rattle.lot_inv.specs.Holding.{kept}
use Rattle.lot_inv.specs.Index.{IsIndex, Place}
use Rattle.lot_inv.proofs.IndexLemmas.{index_set, some_weaker}
use Rattle.lot_inv.proofs.index.renewed.Goals as goal

abbrev Index : Type 0
Index = BTreeMap Place OpenLot

pub returns-in_ok-without-in-Some : goal.returns-in_ok-without-in-Some
returns-in_ok-without-in-Some c =
    λ old held set.
    let was = subst (λ (o : Option Index). IfSome o (λ index. IsIndex c.args.foremost index.entries old)) c.in-Some.is held in
    some_weaker _ _ c.with_lot.result
    (λ new sets. index_set c.args.foremost c.args.key.now c.args.before.now (kept c.args.lot.now.units c.args.lot.now.opening) c.in-Some.index.entries
    c.in_ok-without-in-Some.field-0.entries new.entries old c.args.lots.now.entries was set c.in_ok-without-in-Some.ensures sets) c.with_lot.ensures

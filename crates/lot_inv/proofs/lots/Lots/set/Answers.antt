-- The count and the indexes go with the lots.
use Rattle.std.proofs.Common.{List, Option, arith, sym, subst}
use Rattle.std.specs.BTreeMap.{BTreeMap}
use Rattle.std.specs.Prelude.{IfSome}
use Rattle.lot_inv.specs.declared.foremost.Foremost.{Foremost}
use Rattle.lot_inv.specs.declared.foremost.Foremost.TheVariants.{HighestOpened, NewestOpened, OldestOpened}
use Rattle.lot_inv.specs.declared.lots.OpenLot.{OpenLot}
use Rattle.lot_inv.specs.Holding.{kept}
use Rattle.lot_inv.specs.Index.{IsIndex, IsSet, Place}
use Rattle.lot_inv.proofs.CountLemmas.{count-at_least, count-in_range, counted_still}
use Rattle.lot_inv.proofs.IndexLemmas.{Entry}
use Rattle.lot_inv.proofs.lots.Lots.set.Goals as goal

abbrev Index : Type 0
Index = BTreeMap Place OpenLot

abbrev IsIndexOf : Foremost → List Entry → Option Index → Type 0
IsIndexOf foremost lots index = IfSome index (λ found. IsIndex foremost found.entries lots)

pub overflow_add-self : goal.overflow_add-self
overflow_add-self c =
    let few = count-in_range c.args.key.now c.args.units c.args.opening c.self.inside.by_key.entries c.put.new.lots.entries c.in_ok-before.before c.self.inside.below
    c.self.invariant.counted c.in_ok-before.ensures.counts in
    omega (arith, few, c.one_if_below.ensures, c.len.ensures.len, c.len.ensures.small)

pub invariant_of-self-2 : goal.invariant_of-self-2
invariant_of-self-2 c =
    let key = c.args.key.now in
    let units = c.args.units in
    let opening = c.args.opening in
    let old = c.self.inside.by_key.entries in
    let new = c.put.new.lots.entries in
    let before = c.in_ok-before.before in
    let below = c.self.inside.below in
    let least = count-at_least key units opening old new before below c.self.invariant.counted c.in_ok-before.ensures.counts in
    let sets : IsSet key before (kept units opening) old new = record { was = c.in_ok-before.ensures.before; sets = c.in_ok-before.ensures.each } in
    record {
      counted = counted_still key units opening old new before below c.self.invariant.counted c.in_ok-before.ensures.counts _ (omega (arith, least, c.one_if_below.ensures, c.one_if_below-2.ensures));
      oldest = c.renewed.ensures old (subst (IsIndexOf OldestOpened old) (sym c.take.ensures.value) c.self.invariant.oldest) sets;
      newest = c.renewed-2.ensures old (subst (IsIndexOf NewestOpened old) (sym c.take-2.ensures.value) c.self.invariant.newest) sets;
      highest = c.renewed-3.ensures old (subst (IsIndexOf HighestOpened old) (sym c.take-3.ensures.value) c.self.invariant.highest) sets;
    }

-- Each lot adds its units.
use Rattle.std.proofs.Common.{◌∙◌, ap, arith, rules, take}
use Rattle.std.proofs.lemmas.Int.{ints}
use Rattle.lot_split.specs.Lots.{held_of}
use Rattle.lot_split.proofs.ListLemmas.{next_taken}
use Rattle.lot_split.proofs.SumLemmas.{held_more}
use Rattle.lot_split.proofs.transaction.units_of.Goals as goal

pub loop-lot-preserved : goal.loop-lot-preserved
loop-lot-preserved c =
    let xs = c.args.lots.now in
    let i = c.loop-lot.lot-index in
    let x = c.lot-item.result in
    let taken = next_taken xs i x (search rules) c.lot-item.is in
    let more = ap held_of taken ∙ held_more (take i xs) x in
    let before = c.loop-lot.invariant in
    record { sum = omega (arith, ints, more, before.sum, before.bound); bound = omega (arith, ints, before.bound) }

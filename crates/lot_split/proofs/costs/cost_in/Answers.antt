-- Each lot adds what it costs in the currency.
use Rattle.std.proofs.Common.{◌∙◌, ◌+ℤ◌, ap, sym, arith, rules, take}
use Rattle.std.proofs.lemmas.Int.{ints}
use Rattle.lot_split.specs.Lots.{cost_in}
use Rattle.lot_split.proofs.ListLemmas.{next_taken}
use Rattle.lot_split.proofs.SumLemmas.{cost_more}
use Rattle.lot_split.proofs.costs.cost_in.Goals as goal

pub loop-lot-preserved : goal.loop-lot-preserved
loop-lot-preserved c =
    let xs = c.args.lots.now in
    let i = c.loop-lot.lot-index in
    let x = c.lot-item.result in
    let currency = c.args.currency.now in
    let taken = next_taken xs i x (search rules) c.lot-item.is in
    record {
      sum = c.plus-sum.ensures ∙ ap (λ z. z +ℤ c.part_in.result) c.loop-lot.invariant.sum
          ∙ ap (λ z. cost_in currency (take i xs) +ℤ z) c.part_in.ensures.value
          ∙ sym (ap (cost_in currency) taken ∙ cost_more currency (take i xs) x);
      bound = omega (arith, ints, c.plus-sum.ensures, c.loop-lot.invariant.bound, c.part_in.ensures.bound);
    }

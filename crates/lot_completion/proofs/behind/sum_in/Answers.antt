use Rattle.std.proofs.Common.{◌∙◌, arith, rules}
use Rattle.std.proofs.lemmas.Int.{ints}
use Rattle.lot_completion.proofs.ReadLemmas.{sum_next}
use Rattle.lot_completion.proofs.behind.sum_in.Goals as goal

pub loop-posting-preserved : goal.loop-posting-preserved
loop-posting-preserved c = record {
  sum = c.plus-sum.ensures
      ∙ sum_next c.args.postings.now c.loop-posting.posting-index c.posting-item.result (search rules) c.posting-item.is
      c.args.currency.now c.loop-posting.sum c.part_in.result c.loop-posting.invariant.sum c.part_in.ensures.value;
  small = omega (arith, ints, c.plus-sum.ensures, c.loop-posting.invariant.small, c.part_in.ensures.small);
}

use Rattle.std.specs.BTreeMap.{get}
use Rattle.lot_months.specs.Lots.{pair_cmp}
use Rattle.lot_months.proofs.SeriesLemmas.{KeptSoFar}
use Rattle.lot_months.proofs.series.currency_months.Given as goal

-- what the first pairs come to is kept
abbrev pub invariant-loop-pair : goal.invariant-loop-pair
invariant-loop-pair l =
    KeptSoFar l.flows.range.count (get pair_cmp l.prices.pairs) l.flows.pairs.entries l.pair-iterator l.points

-- A ratio is small where there is one in lowest terms.
use Rattle.std.proofs.Common.{◌∙◌}
use Rattle.lot_deal_read.proofs.RatioLemmas.{small_is}
use Rattle.lot_deal_read.proofs.splits.is_small.Goals as goal

pub returns : goal.returns
returns c = c.is_some.ensures ∙ small_is c.args.ratio c.lowest_ratio.result c.lowest_ratio.ensures.some c.lowest_ratio.ensures.none

-- The takings, the openings and the crumbs weigh together nothing.
use Rattle.std.proofs.Common.{◌+ℤ◌, ap, ◌∙◌}
use Rattle.lot_command.specs.declared.transaction.Transaction.{Transaction}
use Rattle.lot_split.specs.Weights.{taken_in, weigh_in, weights_of}
use Rattle.lot_split.proofs.WeightLemmas.{balance}
use Rattle.lot_split.proofs.laws.a_split_balances.Goals as goal

pub returns : goal.returns
returns c asked method lots t currency is =
    ap (λ (u : Transaction). weigh_in currency (weights_of u.postings) +ℤ taken_in method lots currency) is.is
    ∙ balance asked method currency is.splits.ratio lots is.split is.splits.become

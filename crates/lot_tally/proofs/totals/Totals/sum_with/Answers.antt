use Rattle.std.proofs.Common.{◌∙◌, subst}
use Rattle.std.specs.Prelude.{◌+ℤ◌, SomeIff}
use Rattle.lot_num.specs.Amount.{IsWide}
use Rattle.lot_report.proofs.SumLemmas.{kept_is_sum}
use Rattle.lot_tally.proofs.totals.Totals.sum_with.Goals as goal

pub returns : goal.returns
returns c amounts sums =
    subst (λ sum. SomeIff c.checked_add.result (IsWide (sum +ℤ c.args.amount)) (sum +ℤ c.args.amount))
    (c.unwrap_or-sum.ensures
    ∙ kept_is_sum amounts c.args.self.now.sums.entries c.args.currency.now c.copied.result sums (c.copied.ensures ∙ c.get.ensures.value))
    c.checked_add.ensures

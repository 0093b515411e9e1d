-- A posting without braces adds one weight.
use Rattle.std.proofs.Common.{◌-◌, ◌*◌, List, ℕ, ℤ, sym, ◌∙◌, arith}
use Rattle.std.proofs.lemmas.Result.{on_ok_weaker}
use Rattle.lot_num.specs.Amount.{units_limit}
use Rattle.lot_book.specs.Balance.{add_weight}
use Rattle.lot_book.specs.Refusals.{most_postings}
use Rattle.lot_posting.proofs.BalanceResiduals.{AreWithin-add_weight, residual_in-fits, residuals-push}
use Rattle.lot_posting.proofs.balance.Residuals.weigh.Goals as goal

pub add-requires : goal.add-requires
add-requires c =
    let weight = c.weight_at_price-weight.result in
    residual_in-fits ((most_postings - 1) * units_limit) units_limit c.args.self.now weight.0.now weight.1 c.requires.room
    c.weight_at_price-weight.ensures.bound (omega arith)

pub returns-in-None-clause-sum : goal.returns-in-None-clause-sum
returns-in-None-clause-sum c =
    rw c.in-None.is
    (on_ok_weaker c.add.result (λ now weights before.
    now ∙ (λ j. add_weight (before j) (c.weight_at_price-weight.ensures.value j)) ∙ sym (residuals-push weights _))
    c.add.ensures)

pub returns-in-None-clause-within : goal.returns-in-None-clause-within
returns-in-None-clause-within c =
    let weight : List ℕ × ℤ = (c.weight_at_price-weight.result.0.now, c.weight_at_price-weight.result.1) in
    on_ok_weaker c.add.result (λ now count before.
    rw now (AreWithin-add_weight count c.args.self.now weight c.weight_at_price-weight.ensures.bound before))
    c.add.ensures

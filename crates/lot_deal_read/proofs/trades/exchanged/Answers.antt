-- What settles an amount goes its way.
use Rattle.std.proofs.Common.{ap, sym, ◌∙◌, ◌+ℤ◌, ℤ}
use Rattle.lot_deal_read.specs.Worth.{worth_of}
use Rattle.lot_deal_read.proofs.SignLemmas.{keeps}
use Rattle.lot_deal_read.proofs.trades.exchanged.Goals as goal

pub returns-clause-keeps : goal.returns-clause-keeps
returns-clause-keeps c =
    let said = c.args.said.now in
    let fee = ap (λ (z : ℤ). c.args.amount +ℤ z) c.cash_fee.ensures in
    let worth = sym (ap (λ (z : ℤ). worth_of said.units c.args.price z) c.price_fee.ensures) ∙ sym c.worth.ensures ∙ c.in-Some-worth.is in
    keeps said.units c.args.price c.args.amount said.fee said.currency said.price_currency c.in-Some.rest c.in-Some-worth.worth
    (c.in-Some.ensures.1 ∙ fee) worth (sym c.are_opposite.ensures ∙ c.if-not-are_opposite.false)

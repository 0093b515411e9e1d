-- One more leg adds what it weighs, which stays in range.
use Rattle.std.proofs.Common.{◌+◌, ℤ, ◌+ℤ◌, ◌≡◌, ◌∙◌, pos, ◌*ℤ◌, neg_ℤ, ◌<◌, length, get_or, ap, sym, arith}
use Rattle.lot_num.specs.Amount.{IsWide}
use Rattle.lot_cost.specs.declared.lot_key.LotKey.{LotKey}
use Rattle.lot_book.proofs.GainLemmas.{cost_in_range, cost_within}
use Rattle.lot_book.proofs.GainSums.{sum_over_more}
use Rattle.lot_book.proofs.gain.cost.Goals as goal

pub unreachable-requires : goal.unreachable-requires
unreachable-requires c =
    let sale = c.args.sale.now in
    let given = c.legs-leg-items.ensures in
    let i = c.loop-leg.leg-index in
    let leg = c.leg-item.result in
    let below : i < length sale.legs = rw given.value at c.loop-leg-test.true in
    let is : leg ≡ get_or sale.legs i leg = rw given.value at c.leg-item.is in
    let cost = c.loop-leg.cost in
    let more = c.weight-more.result in
    let small = rw c.negated.ensures at c.weight-more.ensures.bound in
    let within = cost_within sale.legs i leg cost more below is c.loop-leg.invariant.room small in
    let limit = cost_in_range sale.units sale.legs (i + 1) (cost +ℤ more) given.in_range given.of_units within in
    let wide : IsWide (cost +ℤ more) = omega arith in
    c.in-None.ensures wide

pub loop-leg-preserved : goal.loop-leg-preserved
loop-leg-preserved c =
    let sale = c.args.sale.now in
    let given = c.legs-leg-items.ensures in
    let i = c.loop-leg.leg-index in
    let leg = c.leg-item.result in
    let below : i < length sale.legs = rw given.value at c.loop-leg-test.true in
    let is : leg ≡ get_or sale.legs i leg = rw given.value at c.leg-item.is in
    let cost = c.loop-leg.cost in
    let more = c.weight-more.result in
    let small = rw c.negated.ensures at c.weight-more.ensures.bound in
    let weighs : more ≡ neg_ℤ leg.1 *ℤ pos leg.0.number =
    c.weight-more.ensures.value ∙ ap (λ z. z *ℤ pos leg.0.number) c.negated.ensures in
    record {
      sum =
          c.in-Some.ensures.1
          ∙ (λ j. c.loop-leg.invariant.sum j +ℤ weighs j)
          ∙ sym (sum_over_more (λ (l : LotKey × ℤ). neg_ℤ l.1 *ℤ pos l.0.number) sale.legs i leg below is);
      room = rw c.in-Some.ensures.1 (cost_within sale.legs i leg cost more below is c.loop-leg.invariant.room small);
    }

pub returns-clause-bound : goal.returns-clause-bound
returns-clause-bound c =
    let sale = c.args.sale.now in
    let given = c.legs-leg-items.ensures in
    cost_in_range sale.units sale.legs c.loop-leg.leg-index c.loop-leg.cost given.in_range given.of_units c.loop-leg.invariant.room

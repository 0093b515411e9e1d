-- One more leg adds its weight, and no more than its units can weigh; all of them weigh no more than the limit of units can.
use Rattle.std.proofs.Common.{◌+◌, ◌-◌, ◌*◌, suc, List, ℕ, ℤ, take, sym, ap, ◌∙◌, append-nil, arith}
use Rattle.std.specs.Prelude.{unsigned_abs}
use Rattle.lot_num.specs.Amount.{units_limit}
use Rattle.lot_book.specs.Balance.{residuals}
use Rattle.lot_book.specs.Leg.{units_moved}
use Rattle.lot_book.specs.Refusals.{most_postings}
use Rattle.lot_posting.proofs.BalanceResiduals.{AreSmall-add_weight, AreSmall-more, residual_in-fits, residuals-more, units_moved-more, units_moved-take}
use Rattle.lot_posting.proofs.balance.Residuals.add_legs.Goals as goal

pub loop-leg-init : goal.loop-leg-init
loop-leg-init c = record {
  sums = λ weights so_far. so_far ∙ ap residuals (sym (append-nil weights));
  within = λ count within. AreSmall-more (count * units_limit) (count * units_limit + 0) c.args.self.now (omega arith) within;
}

pub add-requires : goal.add-requires
add-requires c =
    let legs = c.args.legs.now in
    let i = c.loop-leg.leg-index in
    let leg = c.leg-item.result in
    let weight = c.weight-weight.result.1 in
    let moved = units_moved-more legs i leg c.loop-leg-test.true c.leg-item.is in
    let few = units_moved-take legs (i + 1) in
    let so_far = (most_postings - 1) * units_limit + units_moved (take i legs) in
    residual_in-fits so_far (unsigned_abs leg.units) c.loop-leg.self c.weight-weight.result.0.now weight
    (c.loop-leg.invariant.within (most_postings - 1) c.requires.room) c.weight-weight.ensures.bound (omega (arith, c.requires.moved))

pub loop-leg-preserved : goal.loop-leg-preserved
loop-leg-preserved c =
    let so_far = c.loop-leg.self in
    let legs = c.args.legs.now in
    let i = c.loop-leg.leg-index in
    let leg = c.leg-item.result in
    let weight : List ℕ × ℤ = (c.weight-weight.result.0.now, c.weight-weight.result.1) in
    let moved = units_moved-more legs i leg c.loop-leg-test.true c.leg-item.is in
    record {
      sums = λ weights before. residuals-more weights legs i leg so_far c.add.new.self weight c.loop-leg-test.true c.leg-item.is
          (c.loop-leg.invariant.sums weights before) c.weight-weight.ensures.value (c.in_ok-add.ensures);
      within = λ count before.
          let moved_before = count * units_limit + units_moved (take i legs) in
          let moved_now = count * units_limit + units_moved (take (i + 1) legs) in
          let added = AreSmall-add_weight moved_before (unsigned_abs leg.units) so_far weight c.weight-weight.ensures.bound
          (c.loop-leg.invariant.within count before) in
          rw c.in_ok-add.ensures
          (AreSmall-more (moved_before + unsigned_abs leg.units) moved_now _ (omega (arith, moved)) added);
    }

pub returns-clause-within : goal.returns-clause-within
returns-clause-within c = λ count before.
    let legs = c.args.legs.now in
    let i = c.loop-leg.leg-index in
    let few = units_moved-take legs i in
    let moved = count * units_limit + units_moved (take i legs) in
    AreSmall-more moved (suc count * units_limit) c.loop-leg.self (omega (arith, c.requires.moved))
    (c.loop-leg.invariant.within count before)

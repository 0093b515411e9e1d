-- Each lot gives what it can of what is still to be taken.
use Rattle.std.proofs.Common.{rules, arith, map, ◌≡◌, ◌∙◌, ◌++◌, [], ◌∷◌, ℤ, sym, ap, unsigned_abs}
use Rattle.std.specs.Prelude.{min}
use Rattle.lot_cost.specs.declared.lot_key.LotKey.{LotKey}
use Rattle.lot_inv.specs.Lot.{key_and_units}
use Rattle.lot_inv.proofs.SetLemmas.{on_err}
use Rattle.lot_booking.proofs.TakeLemmas.{all_after_none, all_after_some, left_after}
use Rattle.lot_booking.proofs.choice.in_turn.Goals as goal

pub loop-lot-preserved-then-part-eq0 : goal.loop-lot-preserved-then-part-eq0
loop-lot-preserved-then-part-eq0 c =
    let lot : LotKey × ℤ = key_and_units c.in-Some.lot in
    let lots = map key_and_units c.next.new.self.rest.items in
    let part : c.min-part.result ≡ min c.loop-lot.left (unsigned_abs c.in-Some.lot.units) = search rules in
    let after = left_after c.loop-lot.left lot lots _ (rw c.in-Some.ensures.steps.0 at c.loop-lot.invariant.left) in
    record {
      legs = all_after_none c.args.units c.loop-lot.left lot lots c.loop-lot.legs.items _ (sym part ∙ c.if-part-eq0.true)
          (rw c.in-Some.ensures.steps.0 at c.loop-lot.invariant.legs);
      left = omega arith;
      within = omega arith;
    }

pub loop-lot-preserved : goal.loop-lot-preserved
loop-lot-preserved c =
    let lot : LotKey × ℤ = key_and_units c.in-Some.lot in
    let lots = map key_and_units c.next.new.self.rest.items in
    let legs = c.loop-lot.legs.items in
    let part : c.min-part.result ≡ min c.loop-lot.left (unsigned_abs c.in-Some.lot.units) = search rules in
    let pushed = c.in_ok-push.ensures.items ∙ ap (λ (u : ℤ). legs ++ (c.in-Some.lot.key, u) ∷ []) c.with_sign_of.ensures in
    let after = left_after c.loop-lot.left lot lots _ (rw c.in-Some.ensures.steps.0 at c.loop-lot.invariant.left) in
    record {
      legs = all_after_some c.args.units c.loop-lot.left c.min-part.result lot lots legs _ _ part c.if-part-eq0.false pushed
          (rw c.in-Some.ensures.steps.0 at c.loop-lot.invariant.legs);
      left = omega arith;
      within = omega arith;
    }

-- a leg is appended only where some units are left, and its lot holds some
pub returns-in_err-push-clause-memory : goal.returns-in_err-push-clause-memory
returns-in_err-push-clause-memory c =
    let part : c.min-part.result ≡ min c.loop-lot.left (unsigned_abs c.in-Some.lot.units) = search rules in
    let left = rw c.in-Some.ensures.steps.0 at c.loop-lot.invariant.left in
    let within = c.loop-lot.invariant.within in
    let some = c.if-part-eq0.false in
    on_err c.from_residual.result (omega arith)

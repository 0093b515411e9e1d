use Rattle.std.proofs.Common.{◌≡◌, ◌*◌, ◌/◌, ◌^◌, ◌<◌, ◌≤◌, ap, sym, subst, ◌∙◌, inl, inr, arith}
use Rattle.std.proofs.lemmas.Grind.{pow_more}
use Rattle.std.proofs.lemmas.Nat.{div_below}
use Rattle.lot_plot.proofs.UnitLemmas.{NoneBelow, none_below_five, none_below_ten, none_below_two, power_some, unit_is}
use Rattle.lot_plot.proofs.grid.unit_of.Goals as goal

pub nonzero_div-span : goal.nonzero_div-span
nonzero_div-span c = rw c.loop.invariant.power (power_some c.loop.counter)

pub returns-then-span-power-le4 : goal.returns-then-span-power-le4
returns-then-span-power-le4 c =
    unit_is c.args.span c.loop.power (c.loop.counter, inl c.loop.invariant.power) c.if-span-power-le4.true c.loop.invariant.none

pub returns-then-span-power-le4-2 : goal.returns-then-span-power-le4-2
returns-then-span-power-le4-2 c =
    let is = c.loop.invariant.power in
    let none = none_below_two c.args.span c.loop.counter (subst (λ p. 4 < c.args.span / p) is c.if-span-power-le4.false) in
    unit_is c.args.span (2 * c.loop.power) (c.loop.counter, inr (inl (ap (λ p. 2 * p) is))) c.if-span-power-le4-2.true
    (subst (λ p. NoneBelow c.args.span (2 * p)) (sym is) none)

pub returns-then-span-power-le4-3 : goal.returns-then-span-power-le4-3
returns-then-span-power-le4-3 c =
    let is = c.loop.invariant.power in
    let none = none_below_five c.args.span c.loop.counter (subst (λ p. 4 < c.args.span / (2 * p)) is c.if-span-power-le4-2.false) in
    unit_is c.args.span (5 * c.loop.power) (c.loop.counter, inr (inr (ap (λ p. 5 * p) is))) c.if-span-power-le4-3.true
    (subst (λ p. NoneBelow c.args.span (5 * p)) (sym is) none)

pub loop-preserved : goal.loop-preserved
loop-preserved c =
    let is = c.loop.invariant.power in
    let none = none_below_ten c.args.span c.loop.counter (subst (λ p. 4 < c.args.span / (5 * p)) is c.if-span-power-le4-3.false) in
    record {
      power = ap (λ p. p * 10) is ∙ sym (pow_more 10 c.loop.counter);
      none = subst (λ p. NoneBelow c.args.span (p * 10)) (sym is) none;
    }

pub returns : goal.returns
returns c =
    let all : c.loop.counter ≡ 38 = omega arith in
    let is : c.loop.power ≡ 10 ^ 38 = c.loop.invariant.power ∙ ap (λ k. 10 ^ k) all in
    let few : c.args.span / 10 ^ 38 ≤ 4 = omega (arith, div_below c.args.span (10 ^ 38) 5 (omega arith) (omega arith)) in
    unit_is c.args.span c.loop.power (38, inl is) (subst (λ p. c.args.span / p ≤ 4) (sym is) few) c.loop.invariant.none

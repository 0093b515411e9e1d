-- The lowest ratio is one, and the products are exact.
use Rattle.std.proofs.Common.{◌≡◌, ℤ, pos, ◌*ℤ◌, IsTrue, sym, ap₂, subst, rules, arith, to_z, of_z}
use Rattle.std.specs.Prelude.{nat_eq}
use Rattle.std.specs.Int.{w128}
use Rattle.std.proofs.lemmas.Int.{ints, to_z-of_z}
use Rattle.lot_num.specs.Amount.{IsUnits}
use Rattle.lot_rounding.specs.Ratio.{IsLowest, amounts_of}
use Rattle.lot_split.specs.Form.{Changes}
use Rattle.lot_split.proofs.RatioLemmas.{in_ratio}
use Rattle.lot_split.proofs.form.is_in_ratio.Goals as goal

pub returns : goal.returns
returns c =
    let change = c.args.change in
    let ratio = c.in-Some-lowest_ratio.ratio in
    let held = c.in-Some.held in
    let exact : held ≡ c.args.held = search (rules, c.in-Some.ensures) in
    let in_range : IsUnits held = c.mantissa.ensures.in_range in
    let lowest : IsLowest (amounts_of change held) ratio = c.in-Some-lowest_ratio.ensures.some in
    let split : to_z w128 (of_z w128 c.args.split) ≡ c.args.split = to_z-of_z w128 c.args.split c.ranges.split in
    let old : to_z w128 (of_z w128 c.from.result) ≡ pos ratio.old = search (rules, arith, ints, to_z-of_z, c.from.ensures) in
    let units : to_z w128 (of_z w128 c.from-2.result) ≡ held = search (rules, arith, ints, to_z-of_z, c.from-2.ensures, c.mantissa.ensures.value) in
    let new : to_z w128 (of_z w128 c.from-3.result) ≡ pos ratio.new = search (rules, arith, ints, to_z-of_z, c.from-3.ensures) in
    let both = in_ratio change held c.args.split ratio in_range c.requires lowest in
    let products = ap₂ (λ (x y : ℤ). IsTrue (nat_eq (of_z w128 x) (of_z w128 y))) (ap₂ (λ (x y : ℤ). x *ℤ y) split old) (ap₂ (λ (x y : ℤ). x *ℤ y) units new) in
    let given = λ (h : ℤ). Changes change h c.args.split in (
      λ yes. subst given exact (both.0 (subst (λ X. X) products yes)),
      λ changes. subst (λ X. X) (sym products) (both.1 (subst given (sym exact) changes)),
    )

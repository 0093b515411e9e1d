-- What is taken, with the other sign, was held.
use Rattle.std.proofs.Common.{◌≡◌, ◌∙◌, ◌↔◌, IsTrue, ℤ, pos, ◌-ℤ◌, drop, take, ap, arith, subst₂, to_z, of_z}
use Rattle.std.specs.Prelude.{neg_ℤ}
use Rattle.std.specs.Int.{w128}
use Rattle.std.proofs.lemmas.Int.{ints, to_z-of_z}
use mir.Val.{SFits}
use Rattle.lot_split.specs.Form.{Changes, count_taking, moving, units_in}
use Rattle.lot_split.proofs.form.is_changed.Goals as goal

pub returns : goal.returns
returns c =
    let asked = c.args.asked.now in
    let moved = moving asked c.args.postings.now in
    let count = c.count_taking.ensures in
    let units = c.units_moved-taken.result in
    let few_taken = c.units_moved-taken.ensures.few_taken in
    let few_opened = c.units_moved-taken.ensures.few_opened in
    let taken : to_z w128 (of_z w128 units.0) ≡ units.0 = to_z-of_z w128 units.0 (omega (arith, ints, few_taken)) in
    let opposite : pos 0 -ℤ units.0 ≡ neg_ℤ units.0 = omega (arith, ints) in
    let fits : SFits w128 (pos 0 -ℤ units.0) = omega (arith, ints, few_taken) in
    let held : to_z w128 (of_z w128 (pos 0 -ℤ to_z w128 (of_z w128 units.0))) ≡ neg_ℤ (units_in (take (count_taking moved) moved)) =
    ap (λ z. to_z w128 (of_z w128 (pos 0 -ℤ z))) taken ∙ to_z-of_z w128 (pos 0 -ℤ units.0) fits ∙ opposite
    ∙ ap neg_ℤ (c.units_moved-taken.ensures.taken ∙ ap (λ n. units_in (take n moved)) count) in
    let opened : to_z w128 (of_z w128 units.1) ≡ units_in (drop (count_taking moved) moved) =
    to_z-of_z w128 units.1 (omega (arith, ints, few_opened)) ∙ c.units_moved-taken.ensures.opened
    ∙ ap (λ n. units_in (drop n moved)) count in
    subst₂ (λ (h s : ℤ). IsTrue c.is_in_ratio.result ↔ Changes asked.change h s) held opened c.is_in_ratio.ensures

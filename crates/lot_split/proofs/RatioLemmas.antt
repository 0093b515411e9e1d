-- Whether units become others in a ratio, by products that 128 bits hold.
use Rattle.std.proofs.Common.{◌≡◌, ◌∙◌, ◌↔◌, ℕ, ◌*◌, ◌≤◌, ℤ, pos, ◌*ℤ◌, IsTrue, sym, ap, subst, arith, to_z, of_z}
use Rattle.std.specs.Prelude.{nat_eq, unsigned_abs}
use Rattle.std.specs.Int.{w128}
use Rattle.std.proofs.lemmas.Bool.Decides.{nat_tests}
use Rattle.std.proofs.lemmas.Int.{ints, to_z-of_z, unsigned_abs-mul}
use mir.Val.{SFits}
use Rattle.lot_num.specs.Amount.{IsUnits, units_limit}
use Rattle.lot_rounding.specs.Ratio.{IsLowest, IsProper, amounts_of, most_in_ratio}
use Rattle.lot_rounding.specs.declared.ratio.Change.{Change}
use Rattle.lot_rounding.specs.declared.ratio.Ratio.{Ratio}
use Rattle.lot_split.specs.Form.{Changes}
use Rattle.lot_split.specs.Split.{most_postings}
use Rattle.lot_split.proofs.OneLemmas.{one_ratio}

-- a product of units of few postings and a number of a ratio
pub product_fits : (amount : ℤ) (number : ℕ) → unsigned_abs amount ≤ most_postings * units_limit → number ≤ most_in_ratio
    → SFits w128 (amount *ℤ pos number)
product_fits amount number few small =
    let size : unsigned_abs (amount *ℤ pos number) ≡ unsigned_abs amount * number = unsigned_abs-mul amount (pos number) in
    let most : unsigned_abs amount * number ≤ most_postings * units_limit * most_in_ratio = grind arith in
    let bound : unsigned_abs (amount *ℤ pos number) ≤ most_postings * units_limit * most_in_ratio = omega (arith, size, most) in
    omega (arith, ints, bound)

-- two numbers that are kept in 128 bits are the same where their bits are
same_bits : (a b : ℤ) → SFits w128 a → SFits w128 b → IsTrue (nat_eq (of_z w128 a) (of_z w128 b)) ↔ (a ≡ b)
same_bits a b first second = (
  λ same.
      let bits : of_z w128 a ≡ of_z w128 b = grind (arith, nat_tests, same) in
      sym (to_z-of_z w128 a first) ∙ ap (to_z w128) bits ∙ to_z-of_z w128 b second,
  λ same.
      let bits : of_z w128 a ≡ of_z w128 b = ap (of_z w128) same in
      grind (arith, nat_tests, bits),
)

-- units become others in the ratio of a change where these products are the same
pub in_ratio : (change : Change) (held split : ℤ) (ratio : Ratio) → IsUnits held → unsigned_abs split ≤ most_postings * units_limit
    → IsLowest (amounts_of change held) ratio
    → IsTrue (nat_eq (of_z w128 (split *ℤ pos ratio.old)) (of_z w128 (held *ℤ pos ratio.new))) ↔ Changes change held split
in_ratio change held split ratio in_range few lowest =
    let proper : IsProper ratio = lowest.are.proper in
    let little : unsigned_abs held ≤ most_postings * units_limit = omega (arith, in_range) in
    let same = same_bits (split *ℤ pos ratio.old) (held *ℤ pos ratio.new)
    (product_fits split ratio.old few proper.most_old) (product_fits held ratio.new little proper.most_new) in (
      λ yes. record { in_range = in_range; ratio = ratio; lowest = lowest; become = same.0 yes },
      λ changes.
          let one : changes.ratio ≡ ratio = one_ratio (amounts_of change held) changes.ratio ratio changes.lowest lowest in
          same.1 (subst (λ (r : Ratio). split *ℤ pos r.old ≡ held *ℤ pos r.new) one changes.become),
    )

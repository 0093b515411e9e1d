-- Of units that divide there is one quotient, so where it is out of range, there are none.
use Rattle.std.proofs.Common.{◌≡◌, ◌*ℤ◌, pos, ◌∙◌, sym, arith, rules}
use Rattle.std.proofs.lemmas.Int.{ints}
use Rattle.lot_split.proofs.NumberLemmas.{cancel}
use Rattle.lot_split.proofs.divide.divided_units.Goals as goal

pub returns-clause-none : goal.returns-clause-none
returns-clause-none c none split units same =
    let q = c.in_ok-quotient.field-0 in
    let exact : q *ℤ pos c.args.ratio.old ≡ c.times.result =
    omega (arith, ints, c.in_ok-quotient.ensures.some, c.times.ensures.small) in
    let one : split ≡ q = cancel split q c.args.ratio.old c.requires.least_old (same ∙ sym c.times.ensures.value ∙ sym exact) in
    absurd (search (rules, rw one at units, rw none at c.units_in.ensures))

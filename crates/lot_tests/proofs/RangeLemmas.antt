-- Legs that move few units stay in the range of units.
use Rattle.std.specs.Prelude.{◌≡◌, ◌+◌, ◌≤◌, ◌<◌, List, [], ◌∷◌, take, ℤ, ◌+ℤ◌, unsigned_abs}
use Rattle.std.proofs.Common.{arith, subst, sym, ℕ}
use Rattle.std.proofs.Math.Nat.{le-add_left}
use Rattle.std.proofs.lemmas.Int.{ints}
use Rattle.std.proofs.lemmas.List.Sums.{sum_by-cons, sum_by-take-le}
use Rattle.lot_num.specs.Amount.{units_limit}
use Rattle.lot_book.specs.declared.leg.Leg.{Leg}
use Rattle.lot_book.specs.declared.leg.Position.{Position}
use Rattle.lot_book.specs.Leg.{same_position, sum_at, units_moved}
use Rattle.lot_book.proofs.CaseLemmas.{by_bool}
use Rattle.lot_book.proofs.SumLemmas.{sum_where_apart, sum_where_here}
use Rattle.lot_book.specs.OpeningNumber.{StayInRange}

sum_size : (a b : ℤ) → unsigned_abs (a +ℤ b) ≤ unsigned_abs a + unsigned_abs b
sum_size a b = omega (arith, ints)

within : (sum first rest moved all : ℕ) → sum ≤ first + rest → rest ≤ moved → all ≡ first + moved → sum ≤ all
within sum first rest moved all some few is = omega arith

-- what legs put into a position is at most all that they move
sum_at-moved : (legs : List Leg) (position : Position) → unsigned_abs (sum_at legs position) ≤ units_moved legs
sum_at-moved [] position = omega arith
sum_at-moved (leg ∷ legs) position =
    let is_at = λ (l : Leg). same_position position l.position in
    let first = unsigned_abs leg.units in
    let rest = unsigned_abs (sum_at legs position) in
    let sum = sum_at (leg ∷ legs) position in
    let size : unsigned_abs sum ≤ first + rest =
    by_bool (same_position position leg.position)
    (λ here.
    subst (λ (z : ℤ). unsigned_abs z ≤ first + rest) (sym (sum_where_here is_at (λ (l : Leg). l.units) leg legs here))
    (sum_size leg.units (sum_at legs position)))
    (λ apart.
    subst (λ (z : ℤ). unsigned_abs z ≤ first + rest) (sym (sum_where_apart is_at (λ (l : Leg). l.units) leg legs apart))
    (le-add_left rest first)) in
    within (unsigned_abs sum) first rest (units_moved legs) (units_moved (leg ∷ legs)) size
    (sum_at-moved legs position) (sum_by-cons (λ (l : Leg). unsigned_abs l.units) leg legs)

pub StayInRange-few : (legs : List Leg) → units_moved legs < units_limit → StayInRange legs
StayInRange-few legs few count position =
    let moved = sum_at-moved (take count legs) position in
    let some = sum_by-take-le (λ (l : Leg). unsigned_abs l.units) legs count in
    omega arith

-- Round numbers: the next one after 1, 2 or 5 times a power of ten, and the least of which few fit.
use Rattle.std.proofs.Common.{◌≡◌, ◌⊎◌, inl, inr, ℕ, suc, ◌+◌, ◌*◌, ◌/◌, ◌^◌, ◌<◌, ◌≤◌, arith, refl}
use Rattle.std.proofs.Math.Nat.{one-le-pow, pow-le-pow_right}
use Rattle.std.proofs.lemmas.Bool.Decides.{leb_tells}
use Rattle.std.proofs.lemmas.Grind.{pow_more}
use Rattle.std.proofs.lemmas.Nat.{div_below, le-div}
use Rattle.lot_plot.specs.Grid.{IsRound, IsUnit}

power_below : (j k : ℕ) → j < k → 10 * 10 ^ j ≤ 10 ^ k
power_below j k below =
    let least : 10 ^ (j + 1) ≤ 10 ^ k = pow-le-pow_right (omega arith) (omega arith) in
    omega (arith, pow_more 10 j)

powers : (j k : ℕ) → (10 * 10 ^ j ≤ 10 ^ k) ⊎ ((10 ^ j ≡ 10 ^ k) ⊎ (10 * 10 ^ k ≤ 10 ^ j))
powers j k = elim (leb_tells (suc j) k) [
  | inl below ↦ inl (power_below j k (omega (arith, below.1)))
  | inr above ↦ elim (leb_tells (suc k) j) [
    | inl less ↦ inr (inr (power_below k j (omega (arith, less.1))))
    | inr least ↦
        let same : j ≡ k = omega (arith, above.1, least.1) in
        inr (inl (rw same refl))
  ]
]

pub power_some : (k : ℕ) → 0 < 10 ^ k
power_some k = let some : 1 ≤ 10 ^ k = one-le-pow k 10 (omega arith) in omega arith

-- what lies below twice, five times and ten times a power of ten
record Steps (power other : ℕ) : Type 0 where
  two : other < 2 * power → other ≤ power
  five : other < 5 * power → other ≤ 2 * power
  ten : other < 10 * power → other ≤ 5 * power

steps_of : (power own other : ℕ) → 0 < own → (other ≡ own) ⊎ ((other ≡ 2 * own) ⊎ (other ≡ 5 * own))
    → (10 * own ≤ power) ⊎ ((own ≡ power) ⊎ (10 * power ≤ own)) → Steps power other
steps_of power own other some is side = record {
  two = λ less. grind arith;
  five = λ less. grind arith;
  ten = λ less. grind arith;
}

steps : (k other : ℕ) → IsRound other → Steps (10 ^ k) other
steps k other (j, is) = steps_of (10 ^ k) (10 ^ j) other (power_some j) is (powers j k)

pub round_some : (other : ℕ) → IsRound other → 0 < other
round_some other (j, is) = let some = power_some j in grind (arith, is)

-- no round number below one fits few times
abbrev pub NoneBelow : ℕ → ℕ → Type 0
NoneBelow span bound = (other : ℕ) → IsRound other → other < bound → 5 * other ≤ span

five_of : (span unit : ℕ) → 0 < unit → 4 < span / unit → 5 * unit ≤ span
five_of span unit some many = elim (leb_tells (5 * unit) span) [
  | inl is ↦ is.1
  | inr less ↦ absurd (omega (arith, div_below span unit 5 some less.1))
]

pub none_below_one : (span : ℕ) → NoneBelow span 1
none_below_one span other round below = absurd (omega (arith, round_some other round))

pub none_below_two : (span k : ℕ) → 4 < span / 10 ^ k → NoneBelow span (2 * 10 ^ k)
none_below_two span k many other round below =
    omega (arith, five_of span (10 ^ k) (power_some k) many, (steps k other round).two below)

pub none_below_five : (span k : ℕ) → 4 < span / (2 * 10 ^ k) → NoneBelow span (5 * 10 ^ k)
none_below_five span k many other round below =
    let some = power_some k in
    omega (arith, five_of span (2 * 10 ^ k) (omega arith) many, (steps k other round).five below)

pub none_below_ten : (span k : ℕ) → 4 < span / (5 * 10 ^ k) → NoneBelow span (10 ^ k * 10)
none_below_ten span k many other round below =
    let some = power_some k in
    omega (arith, five_of span (5 * 10 ^ k) (omega arith) many, (steps k other round).ten (omega (arith, below)))

-- the least round number of which few fit
pub unit_is : (span unit : ℕ) → IsRound unit → span / unit ≤ 4 → NoneBelow span unit → IsUnit span unit
unit_is span unit round few none = record {
  round = round;
  few = few;
  least = λ other its_round its_few. elim (leb_tells unit other) [
    | inl is ↦ is.1
    | inr less ↦
        absurd (omega (arith, its_few, le-div 5 span other (round_some other its_round) (none other its_round less.1)))
  ];
}

-- a span of two numbers of 38 digits has a unit of at most half of one
pub unit_small : (span unit : ℕ) → IsUnit span unit → span ≤ 2 * 10 ^ 38 → unit ≤ 5 * 10 ^ 37
unit_small span unit is small =
    is.least (5 * 10 ^ 37) (37, inr (inr refl)) (omega (arith, div_below span (5 * 10 ^ 37) 5 (omega arith) (omega (arith, small))))

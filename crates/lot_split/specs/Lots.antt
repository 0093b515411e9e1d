-- Lots, and what they are once they are split.
use Rattle.std.specs.Prelude.{◌≡◌, ℕ, ◌*◌, ◌%◌, nat_eq, Bool, true, not, ◌||◌, List, [], ◌∷◌, ◌++◌, map, filter, ℤ, pos, ◌-ℤ◌, ◌*ℤ◌, int_lt, unsigned_abs}
use Rattle.std.specs.List.{AllZip, list_all}
use Rattle.lot_num.specs.Amount.{IsUnits, one}
use Rattle.lot_num.specs.Sum.{sum_of}
use Rattle.lot_base.specs.Text.{same_text}
use Rattle.lot_cost.specs.declared.method.Method.{Method}
use Rattle.lot_cost.specs.declared.method.Method.TheVariants.{Strict, Fifo, Lifo, Hifo, Unmatched}
use Rattle.lot_rounding.specs.Nearest.{IsNearestRate}
use Rattle.lot_rounding.specs.Ratio.{IsProper}
use Rattle.lot_split.specs.declared.lot.HeldLot.{HeldLot}
use Rattle.lot_rounding.specs.declared.ratio.Ratio.{Ratio}

-- ---- What is held.

-- the units of all lots
abbrev pub held_of : List HeldLot → ℤ
held_of lots = sum_of (map (λ (l : HeldLot). l.units) lots)

abbrev pub are_above_zero : List HeldLot → Bool
are_above_zero lots = list_all (λ (l : HeldLot). int_lt (pos 0) l.units) lots

abbrev pub are_below_zero : List HeldLot → Bool
are_below_zero lots = list_all (λ (l : HeldLot). int_lt l.units (pos 0)) lots

-- whether the units of all lots are above zero, or those of all below
abbrev pub have_one_sign : List HeldLot → Bool
have_one_sign lots = are_above_zero lots || are_below_zero lots

-- whether one posting can take all lots of an account with that method; under NONE it is one for each lot
abbrev pub can_be_taken : Method → List HeldLot → Bool
can_be_taken Strict lots = have_one_sign lots
can_be_taken Fifo lots = have_one_sign lots
can_be_taken Lifo lots = have_one_sign lots
can_be_taken Hifo lots = have_one_sign lots
can_be_taken Unmatched lots = true

-- ---- What becomes of a lot.

-- whether units can be divided in a ratio, at eight decimals
abbrev pub divides : Ratio → ℤ → Bool
divides ratio units = nat_eq (unsigned_abs units * ratio.new % ratio.old) 0

-- A lot becomes another in a ratio: its units are as many times the ratio, exactly, and its day, currency and label stay. The
-- number is the nearest rate at which as many units as the ratio's new number cost what as many as its old number did; where the
-- divided number has eight decimals, it is that.
pub record Becomes (ratio : Ratio) (lot split : HeldLot) : Type 0 where
  pub units : split.units *ℤ pos ratio.old ≡ lot.units *ℤ pos ratio.new
  pub in_range : IsUnits split.units
  pub number : IsNearestRate (pos (ratio.new * one)) (pos (lot.key.number * ratio.old)) split.key.number
  pub day : split.key.day ≡ lot.key.day
  pub currency : split.key.currency ≡ lot.key.currency
  pub label : split.key.label ≡ lot.key.label

-- each lot becomes another, all in one ratio
pub record AreDivided (lots split : List HeldLot) : Type 0 where
  pub ratio : Ratio
  pub proper : IsProper ratio
  pub become : AllZip (Becomes ratio) lots split

-- some lot of a list becomes none: its units or its number would be out of range, or don't divide
pub record OneBecomesNone (ratio : Ratio) (lots : List HeldLot) : Type 0 where
  pub before : List HeldLot
  pub lot : HeldLot
  pub after : List HeldLot
  pub is : lots ≡ before ++ lot ∷ after
  pub none : (split : HeldLot) → Becomes ratio lot split → ⊥

-- ---- What lots cost.

-- at scale 16
abbrev pub cost_of : HeldLot → ℤ
cost_of lot = lot.units *ℤ pos lot.key.number

-- what the lots in a currency cost together
abbrev pub cost_in : List ℕ → List HeldLot → ℤ
cost_in currency lots = sum_of (map cost_of (filter (λ (l : HeldLot). same_text currency l.key.currency) lots))

-- currencies, each once, in the order in which they first appear
abbrev pub each_once : List (List ℕ) → List (List ℕ)
each_once [] = []
each_once (currency ∷ currencies) = currency ∷ filter (λ other. not (same_text currency other)) (each_once currencies)

-- the currencies of lots
abbrev pub currencies_of : List HeldLot → List (List ℕ)
currencies_of lots = each_once (map (λ (l : HeldLot). l.key.currency) lots)

-- the crumb of a currency: what lots cost there less what they cost once they are split
abbrev pub crumb_in : List HeldLot → List HeldLot → List ℕ → ℤ
crumb_in lots split currency = cost_in currency lots -ℤ cost_in currency split

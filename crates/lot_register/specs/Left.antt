-- What legs leave of a commodity in an account, and the rows of a register: each leg with what is left behind it
-- (docs/FORMATS.md, Register).
use Rattle.std.specs.Prelude.{◌≡◌, ℤ, pos, unsigned_abs, Bool, false, IsTrue, not, nat_lt, List, [], ◌∷◌, ◌++◌, filter, map, Result, Ok, Err, ⊤}
use Rattle.std.specs.BTreeMap.{get}
use Rattle.std.specs.List.{AllByRecursion}
use Rattle.std.specs.Option.{unwrap_or}
use Rattle.std.specs.Ordering.{is_eq}
use Rattle.lot_num.specs.Amount.{units_limit}
use Rattle.lot_num.specs.Sum.{sum_of}
use Rattle.lot_book.specs.Change.{pair_cmp}
use Rattle.lot_book.specs.declared.change.Pair.{Pair}
use Rattle.lot_report.specs.declared.fault.ReportFault.{ReportFault}
use Rattle.lot_report.specs.declared.fault.ReportFault.TheVariants.{Range, Write, Memory}
use Rattle.lot_register.specs.declared.left.Lefts.{Lefts}
use Rattle.lot_register.specs.declared.leg.NotedLeg.{NotedLeg}

-- ---- what is left

abbrev pub pair_of : NotedLeg → Pair
pair_of leg = record { account = leg.account; commodity = leg.commodity }

abbrev pub is_of_pair : Pair → NotedLeg → Bool
is_of_pair pair leg = is_eq (pair_cmp pair (pair_of leg))

-- what legs leave of a commodity in an account: the sum of the units of all of them there, plain and in lots
abbrev pub left_in : List NotedLeg → Pair → ℤ
left_in legs pair = sum_of (map (λ (leg : NotedLeg). leg.units) (filter (is_of_pair pair) legs))

-- what is left of its commodity in its account behind a leg, with those before it
abbrev pub left_behind : List NotedLeg → NotedLeg → ℤ
left_behind before leg = left_in (before ++ leg ∷ []) (pair_of leg)

-- whether that stays in the range of units
abbrev pub stays : List NotedLeg → NotedLeg → Bool
stays before leg = nat_lt (unsigned_abs (left_behind before leg)) units_limit

-- ---- rows

-- a leg, and what is left behind it
pub record RegisterRow : Type 0 where
  pub leg : NotedLeg
  pub left : ℤ

abbrev pub row_behind : List NotedLeg → NotedLeg → RegisterRow
row_behind before leg = record { leg = leg; left = left_behind before leg }

-- the rows of legs behind others, in their order
abbrev pub rows_behind : List NotedLeg → List NotedLeg → List RegisterRow
rows_behind before [] = []
rows_behind before (leg ∷ legs) = row_behind before leg ∷ rows_behind (before ++ leg ∷ []) legs

-- the rows of legs: what is left counts from the first of them on
abbrev pub rows_of : List NotedLeg → List RegisterRow
rows_of legs = rows_behind [] legs

-- none of the legs is of that commodity in that account
abbrev pub ArePassedBy : Pair → List NotedLeg → Type 0
ArePassedBy pair legs = AllByRecursion (λ (leg : NotedLeg). is_of_pair pair leg ≡ false) legs

-- ---- what is kept

-- what these legs leave is kept, of each commodity in each account
abbrev pub HasLefts : List NotedLeg → Lefts → Type 0
HasLefts legs lefts = (pair : Pair) → unwrap_or (get pair_cmp lefts.sums pair) (pos 0) ≡ left_in legs pair

-- what becomes of it with one more leg
abbrev pub Leaves : List NotedLeg → NotedLeg → Lefts → Result ℤ ReportFault → Type 0
Leaves legs leg lefts (Ok left) = IsTrue (stays legs leg) × (left ≡ left_behind legs leg) × HasLefts (legs ++ leg ∷ []) lefts
Leaves legs leg lefts (Err Range) = IsTrue (not (stays legs leg))
Leaves legs leg lefts (Err Write) = ⊥
Leaves legs leg lefts (Err Memory) = ⊤

-- the same where the sum is looked at first: memory is lacked only by one that stays in range
abbrev pub LeavesStaying : List NotedLeg → NotedLeg → Lefts → Result ℤ ReportFault → Type 0
LeavesStaying legs leg lefts (Ok left) = IsTrue (stays legs leg) × (left ≡ left_behind legs leg) × HasLefts (legs ++ leg ∷ []) lefts
LeavesStaying legs leg lefts (Err Range) = IsTrue (not (stays legs leg))
LeavesStaying legs leg lefts (Err Write) = ⊥
LeavesStaying legs leg lefts (Err Memory) = IsTrue (stays legs leg)

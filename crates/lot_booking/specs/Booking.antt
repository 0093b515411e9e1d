-- What becomes of a posting with braces: its legs and whether it reduces, or why it has none (docs/RULES.md, Legs).
use Rattle.std.specs.Prelude.{◌≡◌, ◌≢◌, ℕ, ◌≤◌, nat_le, Bool, true, false, ◌&&◌, ◌||◌, List, [], ◌∷◌, length, Option, Some, ℤ, pos, unsigned_abs, is_none}
use Rattle.std.specs.BTreeMap.{is_at}
use Rattle.std.specs.Map.{lookup, values_of}
use Rattle.std.specs.Option.{unwrap_or}
use Rattle.lot_num.specs.Amount.{per_unit}
use Rattle.lot_num.specs.Sum.{sum_of}
use Rattle.lot_cost.specs.declared.cost_spec.CostSpec.{CostSpec}
use Rattle.lot_cost.specs.declared.lot_key.LotKey.{LotKey}
use Rattle.lot_inv.specs.Inventory.{Held, Stock, fitting, opening_at, other_sign, reduces, with_number}
use Rattle.lot_cost.specs.LotKey.{lot_cmp}
use Rattle.lot_cost.specs.declared.cost.Cost.{Cost}
use Rattle.lot_cost.specs.declared.cost.Cost.TheVariants.{Each, Whole}
use Rattle.lot_booking.specs.declared.fault.BookingFault.{BookingFault}
use Rattle.lot_booking.specs.declared.fault.BookingFault.TheVariants.{ZeroUnits, InexactCost, IncompleteCost, NoMatch, Ambiguous, NotEnough, Memory}
use Rattle.lot_cost.specs.declared.method.Method.{Method}
use Rattle.lot_booking.specs.declared.selection.Selection.{Selection}
use Rattle.lot_booking.specs.Choice.{HasNoChoice, Takes}
use Rattle.lot_booking.specs.Method.{Ties, ByKey, is_strict, may_reduce, order_by, rule_by, ties_by}

-- a posting with braces, beside the method of its account and how its ties are decided, the inventory of its account, and
-- the day of its transaction
pub record Braced : Type 0 where
  pub ties : Ties
  pub method : Method
  pub held : Held
  pub commodity : List ℕ
  pub units : ℤ
  pub cost : Cost
  pub day : ℤ

abbrev pub posting_by : Ties → Method → Held → List ℕ → ℤ → Cost → ℤ → Braced
posting_by ties method held commodity units cost day =
    record { ties = ties; method = method; held = held; commodity = commodity; units = units; cost = cost; day = day }

-- the same where ties are decided by key
abbrev pub posting_of : Method → Held → List ℕ → ℤ → Cost → ℤ → Braced
posting_of = posting_by ByKey

-- the same on the inventory of an account, by the method and the edition of a selection
abbrev pub posting_on : Selection → Stock → List ℕ → ℤ → Cost → ℤ → Braced
posting_on selection stock commodity units cost day =
    posting_by (ties_by selection.edition (opening_at stock commodity)) selection.method stock.held commodity units cost day

-- ---- what a cost gives of a lot

-- the number for each unit: of a whole cost the total by the units, where that is exactly a rate
abbrev pub number_of : ℤ → Cost → Option ℕ
number_of units (Each spec) = spec.number
number_of units (Whole whole) = per_unit units whole.0

-- what is given beside the total of a whole cost
abbrev pub given_of : Cost → CostSpec
given_of (Each spec) = spec
given_of (Whole whole) = whole.1

-- the specification of a cost for so many units
abbrev pub spec_of : ℤ → Cost → CostSpec
spec_of units cost = with_number (number_of units cost) (given_of cost)

-- a whole cost that no rate for each unit comes to
abbrev pub is_inexact : ℤ → Cost → Bool
is_inexact units (Each spec) = false
is_inexact units (Whole whole) = is_none (per_unit units whole.0)

-- ---- augmenting

-- whether a posting takes lots away: its method may match it, and some lot of its commodity has the other sign
abbrev pub is_reducing : Braced → Bool
is_reducing posting = may_reduce posting.method && reduces posting.held posting.commodity posting.units

-- there are units, their cost is exact, and they don't take lots away
abbrev pub Augments : Braced → Type 0
Augments posting = (posting.units ≢ pos 0) × (is_inexact posting.units posting.cost ≡ false) × (is_reducing posting ≡ false)

-- the key of the lot that a posting opens, or adds to: the number and the currency, the given day or else that of the
-- transaction, and the given label or none
abbrev pub opened_key : CostSpec → ℤ → ℕ → List ℕ → LotKey
opened_key spec day number currency = record { day = unwrap_or spec.day day; currency = currency; number = number; label = spec.label }

-- the legs are one, of all units, at the key of the given number and currency
pub record IsOneLeg (spec : CostSpec) (units day : ℤ) (legs : List (LotKey × ℤ)) : Type 0 where
  pub number : ℕ
  pub currency : List ℕ
  pub given_number : spec.number ≡ Some number
  pub given_currency : spec.currency ≡ Some currency
  pub leg : legs ≡ (opened_key spec day number currency, units) ∷ []

-- no number is given, or no currency
abbrev pub is_incomplete : CostSpec → Bool
is_incomplete spec = is_none spec.number || is_none spec.currency

-- ---- reducing

-- there are units, their cost is exact, and they take lots away
abbrev pub Reduces : Braced → Type 0
Reduces posting = (posting.units ≢ pos 0) × (is_inexact posting.units posting.cost ≡ false) × (is_reducing posting ≡ true)

-- the lots that a posting may take
abbrev pub candidates : Braced → List (LotKey × ℤ)
candidates posting = fitting posting.held posting.commodity posting.units (spec_of posting.units posting.cost)

-- the legs are those of a choice among these lots
abbrev pub AreTaken : Braced → List (LotKey × ℤ) → Type 0
AreTaken posting legs = Takes (rule_by posting.ties posting.method) (order_by posting.ties posting.method) (candidates posting) posting.units legs

-- there is no choice among them
abbrev pub FindsNone : Braced → Type 0
FindsNone posting = HasNoChoice (rule_by posting.ties posting.method) (candidates posting) (unsigned_abs posting.units)

-- the method takes one lot, or each of several whole, and there are several
abbrev pub is_ambiguous : Braced → Bool
is_ambiguous posting = is_strict posting.method && nat_le 2 (length (candidates posting))

-- ---- what becomes of a posting

-- whether it reduces, and its legs; or why it has none
pub data Outcome : Type 0 where
  Legs : Bool → List (LotKey × ℤ) → Outcome
  Refused : BookingFault → Outcome

-- the posting comes to the outcome
abbrev pub ComesTo : Braced → Outcome → Type 0
ComesTo posting (Legs false legs) = Augments posting × IsOneLeg (spec_of posting.units posting.cost) posting.units posting.day legs
ComesTo posting (Legs true legs) = Reduces posting × AreTaken posting legs
ComesTo posting (Refused ZeroUnits) = posting.units ≡ pos 0
ComesTo posting (Refused InexactCost) = (posting.units ≢ pos 0) × (is_inexact posting.units posting.cost ≡ true)
ComesTo posting (Refused IncompleteCost) = Augments posting × (is_incomplete (spec_of posting.units posting.cost) ≡ true)
ComesTo posting (Refused NoMatch) = Reduces posting × (candidates posting ≡ [])
ComesTo posting (Refused Ambiguous) = Reduces posting × (is_ambiguous posting ≡ true) × FindsNone posting
ComesTo posting (Refused NotEnough) = Reduces posting × (candidates posting ≢ []) × (is_ambiguous posting ≡ false) × FindsNone posting
ComesTo posting (Refused Memory) = ⊥

-- the posting comes to legs
abbrev pub ComesToLegs : Braced → Type 0
ComesToLegs posting = (reduces : Bool) × (legs : List (LotKey × ℤ)) × ComesTo posting (Legs reduces legs)

-- a booking stops at the refusal of the posting, or out of memory where the posting comes to legs
abbrev pub Stops : Braced → BookingFault → Type 0
Stops posting ZeroUnits = ComesTo posting (Refused ZeroUnits)
Stops posting InexactCost = ComesTo posting (Refused InexactCost)
Stops posting IncompleteCost = ComesTo posting (Refused IncompleteCost)
Stops posting NoMatch = ComesTo posting (Refused NoMatch)
Stops posting Ambiguous = ComesTo posting (Refused Ambiguous)
Stops posting NotEnough = ComesTo posting (Refused NotEnough)
Stops posting Memory = ComesToLegs posting

-- ---- laws

-- the sum of the units of legs
abbrev pub units_in : List (LotKey × ℤ) → ℤ
units_in legs = sum_of (values_of legs)

-- a leg takes from a lot of the list, and no more than the lot holds: it has the other sign, and adding it leaves zero
-- or the lot's sign
pub record TakesFrom (lots : List (LotKey × ℤ)) (leg : LotKey × ℤ) : Type 0 where
  pub held : ℤ
  pub is_held : lookup (is_at (lot_cmp leg.0)) lots ≡ Some held
  pub sign : other_sign held leg.1 ≡ true
  pub bound : unsigned_abs leg.1 ≤ unsigned_abs held

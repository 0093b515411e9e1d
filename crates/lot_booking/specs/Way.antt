-- The parts on the way to a posting's legs, for the contracts of private functions.
use Rattle.std.specs.Prelude.{◌≡◌, ◌≢◌, ℕ, ◌≤◌, ◌<◌, ◌-◌, min, nat_eq, true, false, if◌then◌else◌, List, [], ◌∷◌, length, ℤ, unsigned_abs}
use Rattle.lot_cost.specs.declared.cost_spec.CostSpec.{CostSpec}
use Rattle.lot_cost.specs.declared.lot_key.LotKey.{LotKey}
use Rattle.lot_cost.specs.declared.method.Method.{Method}
use Rattle.lot_cost.specs.declared.method.Method.TheVariants.{Strict, Fifo, Lifo, Hifo, Unmatched}
use Rattle.lot_inv.specs.declared.foremost.Foremost.{Foremost}
use Rattle.lot_inv.specs.declared.foremost.Foremost.TheVariants.{Oldest, Newest, Highest, OldestOpened, NewestOpened, HighestOpened}
use Rattle.lot_inv.specs.declared.lot.Lot.{Lot}
use Rattle.lot_inv.specs.Foremost.{AreLentOf, numbered}
use Rattle.lot_inv.specs.Inventory.{held_in}
use Rattle.lot_booking.specs.declared.edition.Edition.{Edition}
use Rattle.lot_booking.specs.declared.edition.Edition.TheVariants.{First, Second}
use Rattle.lot_booking.specs.declared.fault.BookingFault.{BookingFault}
use Rattle.lot_booking.specs.declared.fault.BookingFault.TheVariants.{ZeroUnits, InexactCost, IncompleteCost, NoMatch, Ambiguous, NotEnough, Memory}
use Rattle.lot_booking.specs.Booking.{is_incomplete}
use Rattle.lot_booking.specs.Choice.{HaveDistinctKeys, Takes, with_sign_of}
use Rattle.lot_booking.specs.Method.{is_strict, order_by, rule_by, ties_by}

-- the legs of units of which so much is left to take, each lot giving what it can
abbrev pub walked : ℤ → ℕ → List (LotKey × ℤ) → List (LotKey × ℤ)
walked units left [] = []
walked units left (lot ∷ lots) =
    if nat_eq (min left (unsigned_abs lot.1)) 0 then walked units left lots
    else (lot.0, with_sign_of units (min left (unsigned_abs lot.1))) ∷ walked units (left - min left (unsigned_abs lot.1)) lots

-- why a posting that augments has no leg
abbrev pub StopsOpening : CostSpec → BookingFault → Type 0
StopsOpening spec IncompleteCost = is_incomplete spec ≡ true
StopsOpening spec Memory = is_incomplete spec ≡ false
StopsOpening spec ZeroUnits = ⊥
StopsOpening spec InexactCost = ⊥
StopsOpening spec NoMatch = ⊥
StopsOpening spec Ambiguous = ⊥
StopsOpening spec NotEnough = ⊥

-- lots of which there are so many, and which hold so much together, suffice for an amount: they hold as much, and exactly as
-- much under STRICT where they are several
pub record Suffice (method : Method) (lots held amount : ℕ) : Type 0 where
  pub enough : amount ≤ held
  pub exact : is_strict method ≡ true → 2 ≤ lots → held ≡ amount

-- why they don't
abbrev pub FallShort : Method → ℕ → ℕ → ℕ → BookingFault → Type 0
FallShort method lots held amount NoMatch = lots ≡ 0
FallShort method lots held amount Ambiguous = (is_strict method ≡ true) × (2 ≤ lots) × (held ≢ amount)
FallShort method lots held amount NotEnough =
    (lots ≢ 0) × (is_strict method ≡ true → lots < 2) × (held < amount)
FallShort method lots held amount ZeroUnits = ⊥
FallShort method lots held amount InexactCost = ⊥
FallShort method lots held amount IncompleteCost = ⊥
FallShort method lots held amount Memory = ⊥

-- the lots that a method takes first in an edition
abbrev pub foremost_of : Method → Edition → Foremost
foremost_of Strict edition = Oldest
foremost_of Fifo First = Oldest
foremost_of Fifo Second = OldestOpened
foremost_of Lifo First = Newest
foremost_of Lifo Second = NewestOpened
foremost_of Hifo First = Highest
foremost_of Hifo Second = HighestOpened
foremost_of Unmatched edition = Oldest

-- the legs are what units take by a method in an edition: of any lots that suffice, of which these are lent
abbrev pub TakesLent : Method → Edition → List Lot → ℤ → List (LotKey × ℤ) → Type 0
TakesLent method edition lent units legs =
    (opening : LotKey → ℕ) (all : List (LotKey × ℤ)) → HaveDistinctKeys all
    → Suffice method (length all) (held_in all) (unsigned_abs units)
    → AreLentOf (foremost_of method edition) (unsigned_abs units) (numbered opening all) lent
    → Takes (rule_by (ties_by edition opening) method) (order_by (ties_by edition opening) method) all units legs

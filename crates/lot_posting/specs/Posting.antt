-- Booking one posting of a transaction: what it adds to what is booked so far.
use Rattle.std.specs.Prelude.{◌≡◌, ◌≢◌, ◌⊎◌, ℕ, suc, false, List, [], ◌∷◌, ◌++◌, Option, None, Some, ℤ, ⊤}
use Rattle.lot_cost.specs.declared.cost.Cost.{Cost}
use Rattle.lot_command.specs.declared.transaction.Amount.{Amount}
use Rattle.lot_posting.specs.declared.draft.Draft.{Draft}
use Rattle.lot_book.specs.declared.leg.Leg.{Leg}
use Rattle.lot_book.specs.declared.refusal.Stop.{Stop}
use Rattle.lot_book.specs.declared.refusal.Stop.TheVariants.{Refused, Memory}
use Rattle.lot_book.specs.Balance.{AreWithin, residuals, weights_of}
use Rattle.lot_booking.specs.declared.fault.BookingFault.{BookingFault}
use Rattle.lot_booking.specs.declared.fault.BookingFault.TheVariants as fault
use Rattle.lot_booking.specs.Booking.{Braced, ComesTo, ComesToLegs, Refused as Rejected}
use Rattle.lot_book.specs.Booking.{IsRefusalOf, Booked, BooksTo, Fails, HasNoLegs, IsBooked, Line, TieRule, braced, line_under, plain_leg}
use Rattle.lot_book.specs.Facts.{Facts}
use Rattle.lot_book.specs.Openings.{FactsWithOpenings, line_in, ties_for}
use Rattle.lot_posting.specs.declared.posting.Site.{Site}
use Rattle.lot_book.specs.Leg.{leave_range}
use Rattle.lot_book.specs.Sale.{sales_of}

-- ---- one posting

-- the posting of a site, on what is known and the legs so far of its transaction
abbrev pub line_at : FactsWithOpenings → Site → List Leg → Line
line_at known site before = line_in site.edition known site.day before site.posting site.account.now site.amount.now

-- a posting with an amount is booked on a draft, which then has its legs, its weights and its sale
pub record Books (ties : TieRule) (facts : Facts) (day : ℤ) (place : ℕ) (account : List ℕ) (amount : Amount) (old new : Draft) : Type 0 where
  pub booked : Booked
  pub is : IsBooked (line_under ties facts day old.tally.legs place account amount) booked
  pub legs : new.tally.legs ≡ old.tally.legs ++ booked.legs
  pub sum : (weights : List (List ℕ × ℤ)) → old.residuals ≡ residuals weights → new.residuals ≡ residuals (weights ++ weights_of booked)
  pub within : (count : ℕ) → AreWithin count old.residuals → AreWithin (suc count) new.residuals
  pub sales : new.sales ≡ old.sales ++ sales_of day booked

-- the same of the posting of a site
abbrev pub BooksAt : FactsWithOpenings → Site → Draft → Draft → Type 0
BooksAt known site old new =
    Books (ties_for site.edition known) known.facts site.day site.posting site.account.now site.amount.now old new

-- a posting stops at its refusal, or out of memory, of which the clause `memory` says where
abbrev pub StopsPosting : Line → Stop → Type 0
StopsPosting line (Refused refusal) = BooksTo line (Fails refusal)
StopsPosting line Memory = ⊤

-- the same, of a posting with braces that has no legs
abbrev pub StopsWithoutLegs : Line → Stop → Type 0
StopsWithoutLegs line (Refused refusal) = HasNoLegs line line.amount.cost refusal
StopsWithoutLegs line Memory = ⊤

-- ---- memory

-- legs are stored for a posting with that cost: with braces those that it comes to; without braces its one leg, where that
-- leaves its sum in range
abbrev pub StoresFor : Line → Option Cost → Type 0
StoresFor line None = leave_range line.held (plain_leg line ∷ []) ≡ false
StoresFor line (Some cost) = ComesToLegs (braced line cost)

-- lots that legs before it have changed are copied for a posting with that cost: only where it has braces
abbrev pub CopiesLots : List Leg → Option Cost → Type 0
CopiesLots before None = ⊥
CopiesLots before (Some cost) = before ≢ []

-- booking a posting may lack memory: legs are stored for it, or lots are copied
abbrev pub MayLackMemory : List Leg → Line → Type 0
MayLackMemory before line = StoresFor line line.amount.cost ⊎ CopiesLots before line.amount.cost

-- ---- bookings

-- the fault of a booking, as the refusal of the posting at that place, or out of memory
abbrev pub IsStopOf : ℕ → BookingFault → Stop → Type 0
IsStopOf place found (Refused refusal) = IsRefusalOf place found refusal
IsStopOf place found Memory = found ≡ fault.Memory

-- a booking on an inventory stops at the refusal of the posting at that place, or out of memory
abbrev pub StopsOn : Braced → ℕ → Stop → Type 0
StopsOn posting place (Refused refusal) =
    (found : BookingFault) × ComesTo posting (Rejected found) × IsRefusalOf place found refusal
StopsOn posting place Memory = ⊤

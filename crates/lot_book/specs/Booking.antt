-- The legs of the postings with amounts, each booked on those before it.
use Rattle.std.specs.Prelude.{◌≡◌, ◌⊎◌, ℕ, suc, Bool, true, false, List, [], ◌∷◌, ◌++◌, flat_map, Option, None, Some, ℤ}
use Rattle.lot_cost.specs.declared.lot_key.LotKey.{LotKey}
use Rattle.lot_inv.specs.Inventory.{Held}
use Rattle.lot_cost.specs.declared.cost.Cost.{Cost}
use Rattle.lot_booking.specs.declared.fault.BookingFault.{BookingFault}
use Rattle.lot_booking.specs.declared.fault.BookingFault.TheVariants as fault
use Rattle.lot_cost.specs.declared.method.Method.{Method}
use Rattle.lot_cost.specs.declared.method.Method.TheVariants.{Strict}
use Rattle.lot_booking.specs.Booking.{Braced, ComesTo, Legs, Refused, posting_by}
use Rattle.lot_booking.specs.Method.{Ties, ByKey}
use Rattle.lot_command.specs.declared.transaction.Amount.{Amount}
use Rattle.lot_command.specs.declared.transaction.Posting.{Posting}
use Rattle.lot_book.specs.declared.leg.Leg.{Leg}
use Rattle.lot_book.specs.declared.refusal.Refusal.{Refusal}
use Rattle.lot_book.specs.declared.refusal.Refusal.TheVariants as refusal
use Rattle.lot_book.specs.declared.standing.Standing.{Standing}
use Rattle.lot_book.specs.Facts.{Facts}
use Rattle.lot_book.specs.Leg.{leave_range, leg_at, legs_at_lots, with_legs}

-- ---- one posting

-- A posting with an amount, and where it is booked: the number of its entry, its place there, its day, and the method
-- of its account. `ties` says how ties are decided there, and `held` what the account holds.
pub record Line : Type 0 where
  pub entry : ℕ
  pub place : ℕ
  pub day : ℤ
  pub method : Method
  pub ties : Ties
  pub held : Held
  pub account : List ℕ
  pub amount : Amount

-- a posting with an amount once it is booked
pub record Booked : Type 0 where
  pub place : ℕ
  pub account : List ℕ
  pub amount : Amount
  -- whether it takes lots away
  pub reduces : Bool
  pub legs : List Leg

abbrev pub plain_leg : Line → Leg
plain_leg line = leg_at line.entry line.place 0 line.account line.amount.commodity None line.amount.units

abbrev pub braced : Line → Cost → Braced
braced line cost = posting_by line.ties line.method line.held line.amount.commodity line.amount.units cost line.day

-- the posting, with its cost if it has braces, has these legs
abbrev pub HasLegs : Line → Option Cost → Bool → List Leg → Type 0
HasLegs line None reduces legs = (reduces ≡ false) × (legs ≡ plain_leg line ∷ [])
HasLegs line (Some cost) reduces legs =
    (lots : List (LotKey × ℤ)) × ComesTo (braced line cost) (Legs reduces lots)
    × (legs ≡ legs_at_lots line.entry line.place line.account line.amount.commodity 0 lots)

-- the refusal of a posting at that place whose booking has that fault
abbrev pub IsRefusalOf : ℕ → BookingFault → Refusal → Type 0
IsRefusalOf place fault.ZeroUnits refused = refused ≡ refusal.ZeroUnits place
IsRefusalOf place fault.InexactCost refused = refused ≡ refusal.InexactCost place
IsRefusalOf place fault.IncompleteCost refused = refused ≡ refusal.IncompleteCost place
IsRefusalOf place fault.NoMatch refused = refused ≡ refusal.NoMatch place
IsRefusalOf place fault.Ambiguous refused = refused ≡ refusal.Ambiguous place
IsRefusalOf place fault.NotEnough refused = refused ≡ refusal.NotEnough place
IsRefusalOf place fault.Memory refused = ⊥

-- the posting has no legs, for that refusal
abbrev pub HasNoLegs : Line → Option Cost → Refusal → Type 0
HasNoLegs line None refused = ⊥
HasNoLegs line (Some cost) refused =
    (found : BookingFault) × ComesTo (braced line cost) (Refused found) × IsRefusalOf line.place found refused

-- what a posting with an amount comes to
pub data Booking : Type 0 where
  Books : Booked → Booking
  Fails : Refusal → Booking

-- the posting is booked with these legs, which leave no sum out of range
pub record IsBooked (line : Line) (booked : Booked) : Type 0 where
  pub place : booked.place ≡ line.place
  pub account : booked.account ≡ line.account
  pub amount : booked.amount ≡ line.amount
  pub legs : HasLegs line line.amount.cost booked.reduces booked.legs
  pub range : leave_range line.held booked.legs ≡ false

-- the posting has legs, but they leave a sum out of range
pub record IsOutOfRange (line : Line) (refused : Refusal) : Type 0 where
  pub reduces : Bool
  pub legs : List Leg
  pub has : HasLegs line line.amount.cost reduces legs
  pub leave : leave_range line.held legs ≡ true
  pub refusal : refused ≡ refusal.Range line.place

abbrev pub BooksTo : Line → Booking → Type 0
BooksTo line (Books booked) = IsBooked line booked
BooksTo line (Fails refused) = HasNoLegs line line.amount.cost refused ⊎ IsOutOfRange line refused

-- ---- all postings with amounts

-- what they come to: each is booked, or the first that isn't decides
pub data Bookings : Type 0 where
  All : List Booked → Bookings
  Stopped : Refusal → Bookings

-- a posting that is booked, before what the others come to
abbrev pub follow : Booked → Bookings → Bookings
follow booked (All more) = All (booked ∷ more)
follow booked (Stopped refused) = Stopped refused

abbrev pub method_of : Option Standing → Method
method_of None = Strict
method_of (Some standing) = standing.method

-- how ties are decided among the lots of an account and a commodity, behind the legs so far of a transaction
abbrev pub TieRule : Type 0
TieRule = List Leg → List ℕ → List ℕ → Ties

-- all of them by key, as in edition 1
abbrev pub all_by_key : TieRule
all_by_key before account commodity = ByKey

-- the posting with that amount, on what a book says and the legs so far of the transaction
abbrev pub line_under : TieRule → Facts → ℤ → List Leg → ℕ → List ℕ → Amount → Line
line_under ties facts day before place account amount = record {
  entry = suc facts.entries;
  place = place;
  day = day;
  method = method_of (facts.standing account);
  ties = ties before account amount.commodity;
  held = with_legs account (facts.held account) before;
  account = account;
  amount = amount;
}

-- the same where all ties are decided by key
abbrev pub line_of : Facts → ℤ → List Leg → ℕ → List ℕ → Amount → Line
line_of facts day before place account amount = line_under all_by_key facts day before place account amount

-- what the postings come to after what their first one comes to
abbrev pub Continue : (List Leg → Bookings → Type 0) → List Leg → Bookings → Booking → Type 0
Continue Others before outcome (Fails refused) = outcome ≡ Stopped refused
Continue Others before outcome (Books booked) =
    (others : Bookings) × Others (before ++ booked.legs) others × (outcome ≡ follow booked others)

-- a posting and those behind it; an elided one has no legs here
abbrev pub BooksWithUnder : TieRule → (List Leg → Bookings → Type 0) → Facts → ℤ → List Leg → ℕ → List ℕ → Option Amount
    → Bookings → Type 0
BooksWithUnder ties Others facts day before place account None outcome = Others before outcome
BooksWithUnder ties Others facts day before place account (Some amount) outcome =
    (booking : Booking) × BooksTo (line_under ties facts day before place account amount) booking
    × Continue Others before outcome booking

-- postings of a day, of which the first stands at that place, on the legs of those before them
abbrev pub BooksAllUnder : TieRule → Facts → ℤ → List Leg → ℕ → List Posting → Bookings → Type 0
BooksAllUnder ties facts day before place [] outcome = outcome ≡ All []
BooksAllUnder ties facts day before place (posting ∷ postings) outcome =
    BooksWithUnder ties (λ legs others. BooksAllUnder ties facts day legs (suc place) postings others)
    facts day before place posting.account posting.amount outcome

-- the same where all ties are decided by key
abbrev pub BooksWith : (List Leg → Bookings → Type 0) → Facts → ℤ → List Leg → ℕ → List ℕ → Option Amount → Bookings → Type 0
BooksWith Others facts day before place account amount outcome =
    BooksWithUnder all_by_key Others facts day before place account amount outcome

abbrev pub BooksAll : Facts → ℤ → List Leg → ℕ → List Posting → Bookings → Type 0
BooksAll facts day before place postings outcome = BooksAllUnder all_by_key facts day before place postings outcome

abbrev pub legs_in : List Booked → List Leg
legs_in booked = flat_map (λ (b : Booked). b.legs) booked

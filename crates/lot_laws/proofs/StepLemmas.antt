-- On what a book says, each command comes to one outcome, and only one. What judges commands cites these lemmas.
use Rattle.std.specs.Prelude.{◌≡◌, ◌⊎◌, ℕ, suc, Bool, true, false, List, [], ◌∷◌, ◌++◌, Option, None, Some, ℤ}
use Rattle.std.proofs.Common.{refl, sym, ap, subst, ◌∙◌, inl, inr}
use Rattle.std.proofs.lemmas.Bool.{cases_Bool, true≢false}
use Rattle.lot_inv.proofs.LawLemmas.{sorted_matching}
use Rattle.lot_cost.specs.declared.lot_key.LotKey.{LotKey}
use Rattle.lot_cost.specs.declared.cost.Cost.{Cost}
use Rattle.lot_booking.specs.declared.fault.BookingFault.{BookingFault}
use Rattle.lot_booking.specs.declared.fault.BookingFault.TheVariants as fault
use Rattle.lot_booking.specs.Booking.{ComesTo, Legs, Outcome as BookingOutcome, Refused}
use Rattle.lot_booking.proofs.BookingLaws.{one_outcome as one_booking}
use Rattle.lot_booking.proofs.SomeOutcome.{some_outcome as some_booking}
use Rattle.lot_command.specs.declared.command.Command.{Command}
use Rattle.lot_command.specs.declared.command.Command.TheVariants.{Opening, Closing, Declaring, Quoting, Transaction}
use Rattle.lot_command.specs.declared.key.Key.{Key}
use Rattle.lot_command.specs.declared.transaction.Amount.{Amount}
use Rattle.lot_command.specs.declared.transaction.Posting.{Posting}
use Rattle.lot_command.specs.declared.transaction.Transaction.{Transaction as TransactionOf}
use Rattle.lot_book.specs.declared.leg.Leg.{Leg}
use Rattle.lot_book.specs.declared.refusal.Refusal.{Refusal}
use Rattle.lot_book.specs.declared.refusal.Refusal.TheVariants as refusal
use Rattle.lot_book.specs.Booking.{All, Booked, Booking, Bookings, Books, BooksAllUnder, BooksTo, BooksWithUnder, Continue, Fails, HasLegs, HasNoLegs, IsBooked, IsOutOfRange, IsRefusalOf, Line, Stopped, TieRule, braced, follow, line_under, plain_leg}
use Rattle.lot_book.specs.Edition.{Edition, ties_in}
use Rattle.lot_book.specs.Facts.{Entry, Facts, facts_of, text_under}
use Rattle.lot_book.specs.Leg.{leave_range, legs_at_lots}
use Rattle.lot_book.specs.Step.{DecidesByUnder, JudgesTransactionUnder, JudgesUnder, Outcome, StepIn, concluded, first_conditions, first_of}

-- ---- the legs of a posting

abbrev reduces_in : BookingOutcome → Bool
reduces_in (Legs reduces lots) = reduces
reduces_in (Refused found) = false

abbrev lots_in : BookingOutcome → List (LotKey × ℤ)
lots_in (Legs reduces lots) = lots
lots_in (Refused found) = []

abbrev has_legs : BookingOutcome → Bool
has_legs (Legs reduces lots) = true
has_legs (Refused found) = false

abbrev fault_in : BookingOutcome → BookingFault
fault_in (Legs reduces lots) = fault.Memory
fault_in (Refused found) = found

-- a posting has one list of legs
pub legs_one : (line : Line) (cost : Option Cost) (r s : Bool) (legs others : List Leg) → HasLegs line cost r legs
    → HasLegs line cost s others
    → (r ≡ s) × (legs ≡ others)
legs_one line None r s legs others h k = (h.0 ∙ sym k.0, h.1 ∙ sym k.1)
legs_one line (Some cost) r s legs others h k =
    let same : Legs r h.0 ≡ Legs s k.0 = one_booking (braced line cost) (Legs r h.0) (Legs s k.0) h.1 k.1 in (
      ap reduces_in same,
      h.2 ∙ ap (λ outcome. legs_at_lots line.entry line.place line.account line.amount.commodity 0 (lots_in outcome)) same
          ∙ sym k.2,
    )

-- which is none where it is refused
pub legs_or_none : (line : Line) (cost : Option Cost) (reduces : Bool) (legs : List Leg) (refused : Refusal)
    → HasLegs line cost reduces legs → HasNoLegs line cost refused → ⊥
legs_or_none line None reduces legs refused h k = k
legs_or_none line (Some cost) reduces legs refused h k =
    true≢false (ap has_legs (one_booking (braced line cost) (Legs reduces h.0) (Refused k.0) h.1 k.1))

one_refusal : (place : ℕ) (found : BookingFault) (a b : Refusal) → IsRefusalOf place found a → IsRefusalOf place found b → a ≡ b
one_refusal place fault.ZeroUnits a b h k = h ∙ sym k
one_refusal place fault.InexactCost a b h k = h ∙ sym k
one_refusal place fault.IncompleteCost a b h k = h ∙ sym k
one_refusal place fault.NoMatch a b h k = h ∙ sym k
one_refusal place fault.Ambiguous a b h k = h ∙ sym k
one_refusal place fault.NotEnough a b h k = h ∙ sym k
one_refusal place fault.Memory a b h k = absurd h

-- and it is refused for one cause
pub no_legs_one : (line : Line) (cost : Option Cost) (a b : Refusal) → HasNoLegs line cost a → HasNoLegs line cost b → a ≡ b
no_legs_one line None a b h k = absurd h
no_legs_one line (Some cost) a b h k =
    let same : h.0 ≡ k.0 = ap fault_in (one_booking (braced line cost) (Refused h.0) (Refused k.0) h.1 k.1) in
    one_refusal line.place h.0 a b h.2 (subst (λ found. IsRefusalOf line.place found b) (sym same) k.2)

-- ---- what a posting comes to

in_or_out : (line : Line) (booked : Booked) (refused : Refusal) → IsBooked line booked → IsOutOfRange line refused → ⊥
in_or_out line booked refused h k =
    let same = (legs_one line line.amount.cost booked.reduces k.reduces booked.legs k.legs h.legs k.has).1 in
    true≢false (sym k.leave ∙ ap (leave_range line.held) (sym same) ∙ h.range)

pub booking_one : (line : Line) (a b : Booking) → BooksTo line a → BooksTo line b → a ≡ b
booking_one line (Books a) (Books b) h k =
    let same = legs_one line line.amount.cost a.reduces b.reduces a.legs b.legs h.legs k.legs in
    λ i. Books (record {
      place = (h.place ∙ sym k.place) i;
      account = (h.account ∙ sym k.account) i;
      amount = (h.amount ∙ sym k.amount) i;
      reduces = same.0 i;
      legs = same.1 i;
    })
booking_one line (Books a) (Fails b) h (inl k) = absurd (legs_or_none line line.amount.cost a.reduces a.legs b h.legs k)
booking_one line (Books a) (Fails b) h (inr k) = absurd (in_or_out line a b h k)
booking_one line (Fails a) (Books b) (inl h) k = absurd (legs_or_none line line.amount.cost b.reduces b.legs a k.legs h)
booking_one line (Fails a) (Books b) (inr h) k = absurd (in_or_out line b a k h)
booking_one line (Fails a) (Fails b) (inl h) (inl k) = ap Fails (no_legs_one line line.amount.cost a b h k)
booking_one line (Fails a) (Fails b) (inl h) (inr k) = absurd (legs_or_none line line.amount.cost k.reduces k.legs a k.has h)
booking_one line (Fails a) (Fails b) (inr h) (inl k) = absurd (legs_or_none line line.amount.cost h.reduces h.legs b h.has k)
booking_one line (Fails a) (Fails b) (inr h) (inr k) = ap Fails (h.refusal ∙ sym k.refusal)

-- ---- what all postings come to

module _ (ties : TieRule) (Others : List Leg → Bookings → Type 0) where
  continue_one : ((legs : List Leg) (a b : Bookings) → Others legs a → Others legs b → a ≡ b)
      → (before : List Leg) (a b : Bookings) (first : Booking) → Continue Others before a first → Continue Others before b first
      → a ≡ b
  continue_one one before a b (Fails refused) h k = h ∙ sym k
  continue_one one before a b (Books booked) h k = h.2 ∙ ap (follow booked) (one (before ++ booked.legs) h.0 k.0 h.1 k.1)
      ∙ sym k.2

  with_one : ((legs : List Leg) (a b : Bookings) → Others legs a → Others legs b → a ≡ b)
      → (facts : Facts) (day : ℤ) (before : List Leg) (place : ℕ) (account : List ℕ) (amount : Option Amount) (a b : Bookings)
      → BooksWithUnder ties Others facts day before place account amount a → BooksWithUnder ties Others facts day before place account amount b
      → a ≡ b
  with_one one facts day before place account None a b h k = one before a b h k
  with_one one facts day before place account (Some amount) a b h k =
      let same : h.0 ≡ k.0 = booking_one (line_under ties facts day before place account amount) h.0 k.0 h.1 k.1 in
      continue_one one before a b h.0 h.2 (subst (Continue Others before b) (sym same) k.2)

pub books_one : (ties : TieRule) (facts : Facts) (day : ℤ) (before : List Leg) (place : ℕ) (postings : List Posting) (a b : Bookings)
    → BooksAllUnder ties facts day before place postings a → BooksAllUnder ties facts day before place postings b → a ≡ b
books_one ties facts day before place [] a b h k = h ∙ sym k
books_one ties facts day before place (posting ∷ postings) a b h k =
    with_one ties (λ legs others. BooksAllUnder ties facts day legs (suc place) postings others)
    (λ legs c d g l. books_one ties facts day legs
    (suc place) postings c d g l) facts day before place posting.account posting.amount a b h k

-- ---- what a command comes to

transaction_one : (ties : TieRule) (facts : Facts) (t : TransactionOf) (first : Option Refusal) (a b : Outcome)
    → JudgesTransactionUnder ties facts t first a → JudgesTransactionUnder ties facts t first b → a ≡ b
transaction_one ties facts t (Some refused) a b h k = h ∙ sym k
transaction_one ties facts t None a b h k = h.2 ∙ ap (concluded facts t) (books_one ties facts t.day [] 1 t.postings h.0 k.0 h.1 k.1)
    ∙ sym k.2

judges_one : (ties : TieRule) (facts : Facts) (command : Command) (a b : Outcome) → JudgesUnder ties facts command a
    → JudgesUnder ties facts command b → a ≡ b
judges_one ties facts (Opening o) a b h k = h ∙ sym k
judges_one ties facts (Closing c) a b h k = h ∙ sym k
judges_one ties facts (Declaring d) a b h k = h ∙ sym k
judges_one ties facts (Quoting q) a b h k = h ∙ sym k
judges_one ties facts (Transaction t) a b h k = transaction_one ties facts t (first_of (first_conditions facts t)) a b h k

by_text_one : (ties : TieRule) (text : Option (List ℕ)) (facts : Facts) (command : Command) (a b : Outcome)
    → DecidesByUnder ties text facts command a → DecidesByUnder ties text facts command b → a ≡ b
by_text_one ties None facts command a b h k = judges_one ties facts command a b h k
by_text_one ties (Some text) facts command a b h k = h ∙ sym k

pub step_one : (edition : Edition) (book : List Entry) (key : Key) (command : Command) (a b : Outcome)
    → StepIn edition book key command a → StepIn edition book key command b → a ≡ b
step_one edition book key command a b h k =
    by_text_one (ties_in edition book) (text_under book key) (facts_of book key) command a b h k

-- ---- some outcome

refusal_of : (place : ℕ) (line : Line) (cost : Cost) (found : BookingFault) → ComesTo (braced line cost) (Refused found)
    → (refused : Refusal) × IsRefusalOf place found refused
refusal_of place line cost fault.ZeroUnits h = (refusal.ZeroUnits place, refl)
refusal_of place line cost fault.InexactCost h = (refusal.InexactCost place, refl)
refusal_of place line cost fault.IncompleteCost h = (refusal.IncompleteCost place, refl)
refusal_of place line cost fault.NoMatch h = (refusal.NoMatch place, refl)
refusal_of place line cost fault.Ambiguous h = (refusal.Ambiguous place, refl)
refusal_of place line cost fault.NotEnough h = (refusal.NotEnough place, refl)
refusal_of place line cost fault.Memory h = absurd h

abbrev HasSome : Line → Option Cost → Type 0
HasSome line cost = ((reduces : Bool) × (legs : List Leg) × HasLegs line cost reduces legs) ⊎
    ((refused : Refusal) × HasNoLegs line cost refused)

legs_from : (line : Line) (cost : Cost) (outcome : BookingOutcome) → ComesTo (braced line cost) outcome → HasSome line (Some cost)
legs_from line cost (Legs reduces lots) h =
    inl (reduces, legs_at_lots line.entry line.place line.account line.amount.commodity 0 lots, (lots, h, refl))
legs_from line cost (Refused found) h =
    let refused = refusal_of line.place line cost found h in
    inr (refused.0, (found, h, refused.1))

-- a posting has legs, or is refused
pub some_legs : (line : Line) (cost : Option Cost) → HasSome line cost
some_legs line None = inl (false, plain_leg line ∷ [], (refl, refl))
some_legs line (Some cost) =
    let some = some_booking sorted_matching (braced line cost) in
    legs_from line cost some.0 some.1

pub some_booking_of : (line : Line) → (first : Booking) × BooksTo line first
some_booking_of line = elim (some_legs line line.amount.cost) [
  | inl some ↦ elim (cases_Bool (leave_range line.held some.1)) [
    | inl leave ↦ (
      Fails (refusal.Range line.place),
      inr (record { reduces = some.0; legs = some.1; has = some.2; leave = leave; refusal = refl }),
    )
    | inr stay ↦ (
      Books (record { place = line.place; account = line.account; amount = line.amount; reduces = some.0; legs = some.1 }),
      record { place = refl; account = refl; amount = refl; legs = some.2; range = stay },
    )
  ]
  | inr none ↦ (Fails none.0, inl none.1)
]

module _ (ties : TieRule) (Others : List Leg → Bookings → Type 0) (some : (legs : List Leg) → (others : Bookings) × Others legs others) where
  some_continue : (before : List Leg) (first : Booking) → (outcome : Bookings) × Continue Others before outcome first
  some_continue before (Fails refused) = (Stopped refused, refl)
  some_continue before (Books booked) =
      let others = some (before ++ booked.legs) in
      (follow booked others.0, (others.0, others.1, refl))

  some_with : (facts : Facts) (day : ℤ) (before : List Leg) (place : ℕ) (account : List ℕ) (amount : Option Amount)
      → (outcome : Bookings) × BooksWithUnder ties Others facts day before place account amount outcome
  some_with facts day before place account None = some before
  some_with facts day before place account (Some amount) =
      let first = some_booking_of (line_under ties facts day before place account amount) in
      let all = some_continue before first.0 in
      (all.0, (first.0, first.1, all.1))

some_bookings : (ties : TieRule) (facts : Facts) (day : ℤ) (before : List Leg) (place : ℕ) (postings : List Posting)
    → (outcome : Bookings) × BooksAllUnder ties facts day before place postings outcome
some_bookings ties facts day before place [] = (All [], refl)
some_bookings ties facts day before place (posting ∷ postings) =
    some_with ties (λ legs others. BooksAllUnder ties facts day legs (suc place) postings others)
    (λ legs. some_bookings ties facts day legs (suc place) postings)
    facts day before place posting.account posting.amount

some_transaction : (ties : TieRule) (facts : Facts) (t : TransactionOf) (first : Option Refusal)
    → (outcome : Outcome) × JudgesTransactionUnder ties facts t first outcome
some_transaction ties facts t (Some refused) = (_, refl)
some_transaction ties facts t None =
    let bookings = some_bookings ties facts t.day [] 1 t.postings in
    (concluded facts t bookings.0, (bookings.0, bookings.1, refl))

some_judgement : (ties : TieRule) (facts : Facts) (command : Command) → (outcome : Outcome) × JudgesUnder ties facts command outcome
some_judgement ties facts (Opening o) = (_, refl)
some_judgement ties facts (Closing c) = (_, refl)
some_judgement ties facts (Declaring d) = (_, refl)
some_judgement ties facts (Quoting q) = (_, refl)
some_judgement ties facts (Transaction t) = some_transaction ties facts t (first_of (first_conditions facts t))

some_by_text : (ties : TieRule) (text : Option (List ℕ)) (facts : Facts) (command : Command)
    → (outcome : Outcome) × DecidesByUnder ties text facts command outcome
some_by_text ties None facts command = some_judgement ties facts command
some_by_text ties (Some text) facts command = (_, refl)

pub some_step : (edition : Edition) (book : List Entry) (key : Key) (command : Command)
    → (outcome : Outcome) × StepIn edition book key command outcome
some_step edition book key command = some_by_text (ties_in edition book) (text_under book key) (facts_of book key) command

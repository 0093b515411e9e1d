-- Books: each entry was accepted on the entries before it.
use Rattle.std.specs.Prelude.{◌≡◌, ℕ, suc, ◌≤◌, Bool, true, false, cond, List, [], ◌∷◌, ◌++◌, length, Option, None, Some, ℤ}
use Rattle.std.proofs.Common.{refl, sym, ap, subst, append_assoc}
use Rattle.std.proofs.lemmas.Bool.{le-ltb}
use Rattle.std.proofs.lemmas.List.{append-nil}
use Rattle.lot_base.specs.Text.{same_text}
use Rattle.lot_command.specs.Canonical.{canonical}
use Rattle.lot_command.specs.declared.command.Command.{Command}
use Rattle.lot_command.specs.declared.key.Key.{Key}
use Rattle.lot_command.specs.declared.transaction.Amount.{Amount}
use Rattle.lot_command.specs.declared.transaction.Posting.{Posting}
use Rattle.lot_book.specs.declared.leg.Leg.{Leg}
use Rattle.lot_book.specs.declared.refusal.Refusal.{Refusal}
use Rattle.lot_book.specs.declared.refusal.Refusal.TheVariants.{KeyReused}
use Rattle.lot_book.specs.Book.{ContinuesIn}
use Rattle.lot_book.specs.Booking.{All, Booked, Booking, Bookings, Books, BooksAllUnder, BooksTo, BooksWithUnder, Continue, Fails, IsBooked, Stopped, TieRule, follow, line_under}
use Rattle.lot_book.specs.Edition.{After, Edition, First, Migration, Second, edition_on, ties_in}
use Rattle.lot_book.specs.Facts.{Entry, Facts, facts_of, text_under}
use Rattle.lot_book.specs.Step.{Accept, DecidesByUnder, JudgesUnder, Refuse, Repeat, StepIn, accept_unless}

-- ---- Acceptance.

not_refused : (legs : List Leg) (refusal : Refusal) → Accept legs ≡ Refuse refusal → ⊥
not_refused legs refusal e = cc

-- a command under a key that stands isn't accepted
not_accepted : (b : Bool) (legs : List Leg) → Accept legs ≡ cond b Repeat (Refuse KeyReused) → ⊥
not_accepted true legs e = cc
not_accepted false legs e = cc

-- what is accepted has a key that is new, and is judged
accepted_by : (ties : TieRule) (text : Option (List ℕ)) (facts : Facts) (command : Command) (legs : List Leg)
    → DecidesByUnder ties text facts command (Accept legs) → (text ≡ None) × JudgesUnder ties facts command (Accept legs)
accepted_by ties None facts command legs h = (refl, h)
accepted_by ties (Some text) facts command legs h = absurd (not_accepted (same_text text (canonical command)) legs h)

pub accepted : (edition : Edition) (book : List Entry) (key : Key) (command : Command) (legs : List Leg)
    → StepIn edition book key command (Accept legs)
    → (text_under book key ≡ None) × JudgesUnder (ties_in edition book) (facts_of book key) command (Accept legs)
accepted edition book key command legs h =
    accepted_by (ties_in edition book) (text_under book key) (facts_of book key) command legs h

-- what is accepted has no condition that holds, and its legs
pub none_holds : (condition : Option Refusal) (legs more : List Leg) → Accept legs ≡ accept_unless condition more → (condition ≡ None) × (legs ≡ more)
none_holds None legs more e = (refl, cc)
none_holds (Some refusal) legs more e = absurd cc

-- ---- Which edition judges.

-- behind as many entries as the place of migration, or more, the second
pub second_there : (place : ℕ) (before : List Entry) → place ≤ length before → edition_on (After place) before ≡ Second
second_there place before more = ap (λ b. cond b First Second) (le-ltb (length before) place more)

-- ---- Parts of a book.

-- what stands behind some entries of a book continues them
pub continued : (migration : Migration) (before entries more : List Entry) → ContinuesIn migration before (entries ++ more)
    → ContinuesIn migration (before ++ entries) more
continued migration before [] more h = subst (λ (book : List Entry). ContinuesIn migration book more) (sym (append-nil before)) h
continued migration before (entry ∷ entries) more h =
    subst (λ (book : List Entry). ContinuesIn migration book more) (append_assoc before (entry ∷ []) entries)
    (continued migration (before ++ entry ∷ []) entries more h.1)

-- entries before others of a book continue what is before them
pub begun : (migration : Migration) (before entries more : List Entry) → ContinuesIn migration before (entries ++ more)
    → ContinuesIn migration before entries
begun migration before [] more h = tt
begun migration before (entry ∷ entries) more h = (h.0, begun migration (before ++ entry ∷ []) entries more h.1)

-- ---- What holds of the booked postings of a transaction.

abbrev pub posted : List ℕ → Option Amount → Posting
posted account amount = record { account = account; amount = amount }

-- what holds of no postings, and of one posting more at the place before them, holds of all
module _ (ties : TieRule) (facts : Facts) (day : ℤ) (P : ℕ → List Leg → List Posting → List Booked → Type 0)
    (none : (place : ℕ) (before : List Leg) → P place before [] [])
    (elided : (place : ℕ) (before : List Leg) (account : List ℕ) (postings : List Posting) (booked : List Booked)
    → P (suc place) before postings booked → P place before (posted account None ∷ postings) booked)
    (one : (before : List Leg) (place : ℕ) (account : List ℕ) (amount : Amount) (postings : List Posting) (first : Booked) (more : List Booked)
    → IsBooked (line_under ties facts day before place account amount) first → P (suc place) (before ++ first.legs) postings more
    → P place before (posted account (Some amount) ∷ postings) (first ∷ more)) where
  abbrev Rest : ℕ → List Posting → Type 0
  Rest place postings =
      (before : List Leg) (booked : List Booked) → BooksAllUnder ties facts day before place postings (All booked) → P place before postings booked

  followed : (before : List Leg) (place : ℕ) (account : List ℕ) (amount : Amount) (postings : List Posting) (booked : List Booked) (first : Booked) (others : Bookings)
      → Rest (suc place) postings → IsBooked (line_under ties facts day before place account amount) first
      → BooksAllUnder ties facts day (before ++ first.legs) (suc place) postings others → All booked ≡ follow first others
      → P place before (posted account (Some amount) ∷ postings) booked
  followed before place account amount postings booked first (Stopped refused) rest is books e = absurd cc
  followed before place account amount postings booked first (All more) rest is books e =
      let all : first ∷ more ≡ booked = cc in
      subst (λ (bs : List Booked). P place before (posted account (Some amount) ∷ postings) bs) all
      (one before place account amount postings first more is (rest (before ++ first.legs) more books))

  continues : (before : List Leg) (place : ℕ) (account : List ℕ) (amount : Amount) (postings : List Posting) (booked : List Booked) (booking : Booking)
      → Rest (suc place) postings → BooksTo (line_under ties facts day before place account amount) booking
      → Continue (λ legs others. BooksAllUnder ties facts day legs (suc place) postings others) before (All booked) booking
      → P place before (posted account (Some amount) ∷ postings) booked
  continues before place account amount postings booked (Fails refused) rest books h = absurd cc
  continues before place account amount postings booked (Books first) rest books h =
      followed before place account amount postings booked first h.0 rest books h.1 h.2

  with_first : (before : List Leg) (place : ℕ) (account : List ℕ) (amount : Option Amount) (postings : List Posting) (booked : List Booked)
      → Rest (suc place) postings
      → BooksWithUnder ties (λ legs others. BooksAllUnder ties facts day legs (suc place) postings others) facts day before place account amount (All booked)
      → P place before (posted account amount ∷ postings) booked
  with_first before place account None postings booked rest books = elided place before account postings booked (rest before booked books)
  with_first before place account (Some amount) postings booked rest books =
      continues before place account amount postings booked books.0 rest books.1 books.2

  pub over_placed : (place : ℕ) (postings : List Posting) → Rest place postings
  over_placed place [] before booked books =
      let all : [] ≡ booked = cc in subst (λ (bs : List Booked). P place before [] bs) all (none place before)
  over_placed place (posting ∷ postings) before booked books =
      with_first before place posting.account posting.amount postings booked (over_placed (suc place) postings) books

-- the same of what speaks of no place
module _ (ties : TieRule) (facts : Facts) (day : ℤ) (P : List Leg → List Posting → List Booked → Type 0)
    (none : (before : List Leg) → P before [] [])
    (elided : (before : List Leg) (account : List ℕ) (postings : List Posting) (booked : List Booked) → P before postings booked
    → P before (posted account None ∷ postings) booked)
    (one : (before : List Leg) (place : ℕ) (account : List ℕ) (amount : Amount) (postings : List Posting) (first : Booked) (more : List Booked)
    → IsBooked (line_under ties facts day before place account amount) first → P (before ++ first.legs) postings more
    → P before (posted account (Some amount) ∷ postings) (first ∷ more)) where
  pub over_booked : (place : ℕ) (postings : List Posting) (before : List Leg) (booked : List Booked)
      → BooksAllUnder ties facts day before place postings (All booked) → P before postings booked
  over_booked = over_placed ties facts day (λ place. P) (λ place. none) (λ place. elided) one

-- What a posting comes to depends on what it looks at alone.
use Rattle.std.specs.Prelude.{◌≡◌, ℕ, suc, Bool, cond, List, [], ◌∷◌, ◌++◌, Option, None, Some, ℤ}
use Rattle.std.specs.List.{AllByRecursion}
use Rattle.std.specs.Option.{is_none}
use Rattle.std.proofs.Common.{refl, sym, ap, subst, ◌∙◌, inl, inr}
use Rattle.lot_inv.specs.Inventory.{Held}
use Rattle.lot_cost.specs.declared.cost.Cost.{Cost}
use Rattle.lot_cost.specs.declared.method.Method.{Method}
use Rattle.lot_booking.specs.Booking.{Legs, Refused}
use Rattle.lot_booking.specs.Method.{Ties}
use Rattle.lot_command.specs.declared.transaction.Amount.{Amount}
use Rattle.lot_command.specs.declared.transaction.Posting.{Posting}
use Rattle.lot_cost.specs.declared.lot_key.LotKey.{LotKey}
use Rattle.lot_book.specs.declared.leg.Leg.{Leg}
use Rattle.lot_book.specs.declared.change.Pair.{Pair}
use Rattle.lot_book.specs.declared.refusal.Refusal.{Refusal}
use Rattle.lot_book.specs.Agree.{HaveSameOf, HaveSamePlain}
use Rattle.lot_book.specs.Touched.{accounts_of, elided_of, if_elided, pair_of, pairs_of}
use Rattle.lot_book.specs.Balance.{elided_postings}
use Rattle.lot_book.specs.Booking.{Booking, Bookings, Books, BooksAllUnder, BooksTo, BooksWithUnder, Continue, Fails, HasLegs, HasNoLegs, Line, TieRule, line_under, method_of}
use Rattle.lot_book.specs.Facts.{Facts}
use Rattle.lot_book.specs.Leg.{leave_range, legs_at_lots, with_legs}
use Rattle.lot_laws.proofs.StepHeld.{HaveSame, IsOf, same_lots_of, same_of, same_range, same_with_legs}
use Rattle.lot_booking.proofs.SameTies.{IsHeldLot, SameOrders, comes_alike}

-- ---- one posting with an amount, on inventories with the same of its commodity

abbrev line_at : ℕ → ℕ → ℤ → Method → List ℕ → Amount → Ties → Held → Line
line_at entry place day method account amount ties held =
    record { entry = entry; place = place; day = day; method = method; ties = ties; held = held; account = account; amount = amount }

of_lots : (entry place : ℕ) (account commodity : List ℕ) (at : ℕ) (lots : List (LotKey × ℤ))
    → AllByRecursion (λ (leg : Leg). leg.position.commodity ≡ commodity) (legs_at_lots entry place account commodity at lots)
of_lots entry place account commodity at [] = tt
of_lots entry place account commodity at (lot ∷ lots) = (refl, of_lots entry place account commodity (suc at) lots)

-- all legs of a posting are of its commodity
of_posting : (line : Line) (cost : Option Cost) (reduces : Bool) (legs : List Leg) → HasLegs line cost reduces legs
    → AllByRecursion (λ (leg : Leg). leg.position.commodity ≡ line.amount.commodity) legs
of_posting line None reduces legs h =
    subst (λ ls. AllByRecursion (λ (leg : Leg). leg.position.commodity ≡ line.amount.commodity) ls) (sym h.1) (refl, tt)
of_posting line (Some cost) reduces legs h =
    subst (λ ls. AllByRecursion (λ (leg : Leg). leg.position.commodity ≡ line.amount.commodity) ls) (sym h.2)
    (of_lots line.entry line.place line.account line.amount.commodity 0 h.0)

module _ (entry place : ℕ) (day : ℤ) (method : Method) (account : List ℕ) (amount : Amount) (s t : Ties) (a b : Held)
    (same : HaveSame (IsOf amount.commodity) a b) (orders : SameOrders (IsHeldLot a amount.commodity) s t) where
  abbrev there : Line
  there = line_at entry place day method account amount s a

  abbrev here : Line
  here = line_at entry place day method account amount t b

  still_legs : (cost : Option Cost) (reduces : Bool) (legs : List Leg) → HasLegs there cost reduces legs
      → HasLegs here cost reduces legs
  still_legs None reduces legs h = h
  still_legs (Some cost) reduces legs h = (
    h.0,
    comes_alike s t method a b amount.commodity amount.units cost day (same_lots_of amount.commodity a b same) orders
        (Legs reduces h.0) h.1,
    h.2,
  )

  still_none : (cost : Option Cost) (refused : Refusal) → HasNoLegs there cost refused → HasNoLegs here cost refused
  still_none None refused h = h
  still_none (Some cost) refused h = (
    h.0,
    comes_alike s t method a b amount.commodity amount.units cost day (same_lots_of amount.commodity a b same) orders
        (Refused h.0) h.1,
    h.2,
  )

  still_range : (reduces : Bool) (legs : List Leg) → HasLegs there amount.cost reduces legs
      → leave_range b legs ≡ leave_range a legs
  still_range reduces legs h = sym (same_range (IsOf amount.commodity) a b legs same
      (of_posting there amount.cost reduces legs h))

  still_books : (booking : Booking) → BooksTo there booking → BooksTo here booking
  still_books (Books booked) h = record {
    place = h.place;
    account = h.account;
    amount = h.amount;
    legs = still_legs amount.cost booked.reduces booked.legs h.legs;
    range = still_range booked.reduces booked.legs h.legs ∙ h.range;
  }
  still_books (Fails refused) (inl h) = inl (still_none amount.cost refused h)
  still_books (Fails refused) (inr h) = inr (record {
    reduces = h.reduces;
    legs = h.legs;
    has = still_legs amount.cost h.reduces h.legs h.has;
    leave = still_range h.reduces h.legs h.has ∙ h.leave;
    refusal = h.refusal;
  })

-- ---- what a posting looks at

-- the facts agree on the holdings that a posting looks at, and on its latest day
abbrev pub AlikeIn : Facts → Facts → List ℕ → Option Amount → Type 0
AlikeIn a b account None = HaveSamePlain (a.held account) (b.held account)
AlikeIn a b account (Some amount) =
    (a.latest_at_cost account amount.commodity ≡ b.latest_at_cost account amount.commodity) × HaveSameOf amount.commodity
    (a.held account) (b.held account)

abbrev pub Alike : Facts → Facts → Posting → Type 0
Alike a b posting = (a.standing posting.account ≡ b.standing posting.account) × AlikeIn a b posting.account posting.amount

module _ (a b : Facts) where
  abbrev SameStanding : List ℕ → Type 0
  SameStanding account = a.standing account ≡ b.standing account

  abbrev SameLatest : Pair → Type 0
  SameLatest pair = a.latest_at_cost pair.account pair.commodity ≡ b.latest_at_cost pair.account pair.commodity

  abbrev SameHeld : Pair → Type 0
  SameHeld pair = HaveSameOf pair.commodity (a.held pair.account) (b.held pair.account)

  abbrev SamePlain : List ℕ → Type 0
  SamePlain account = HaveSamePlain (a.held account) (b.held account)

  pub alike_all : (postings : List Posting) → AllByRecursion SameStanding (accounts_of postings)
      → AllByRecursion SameLatest (pairs_of postings) → AllByRecursion SameHeld (pairs_of postings)
      → AllByRecursion SamePlain (elided_of postings)
      → AllByRecursion (Alike a b) postings
  alike_all [] standing latest held plain = tt
  alike_all (p ∷ ps) standing latest held plain =
      elim p.amount as (λ amount. AllByRecursion SameLatest (pair_of p.account amount ++ pairs_of ps)
      → AllByRecursion SameHeld (pair_of p.account amount ++ pairs_of ps)
      → AllByRecursion SamePlain (if_elided p.account amount ++ elided_of ps)
      → (SameStanding p.account × AlikeIn a b p.account amount) × AllByRecursion (Alike a b) ps) [
        | None ↦ λ l h q. ((standing.0, q.0), alike_all ps standing.1 l h q.1)
        | Some amount ↦ λ l h q. ((standing.0, (l.0, h.0)), alike_all ps standing.1 l.1 h.1 q)
      ] latest held plain

  -- what is so of the elided postings
  abbrev pub AlikeElided : ℕ × List ℕ → Type 0
  AlikeElided elided = SameStanding elided.1 × SamePlain elided.1

  pub alike_elided : (place : ℕ) (postings : List Posting) → AllByRecursion (Alike a b) postings
      → AllByRecursion AlikeElided (elided_postings place postings)
  alike_elided place [] alike = tt
  alike_elided place (p ∷ ps) alike =
      elim p.amount as (λ amount. AlikeIn a b p.account amount
      → AllByRecursion AlikeElided (cond (is_none amount) ((place, p.account) ∷ elided_postings (suc place) ps)
      (elided_postings (suc place) ps))) [
        | None ↦ λ plain. ((alike.0.0, plain), alike_elided (suc place) ps alike.1)
        | Some amount ↦ λ both. alike_elided (suc place) ps alike.1
      ] alike.0.1

-- ---- how ties are decided

-- the orders of an account and a commodity are the same among the lots held there, behind whatever legs of a transaction
abbrev pub TiesAlike : TieRule → TieRule → Facts → Pair → Type 0
TiesAlike s t facts pair =
    (before : List Leg) → SameOrders (IsHeldLot (with_legs pair.account (facts.held pair.account) before) pair.commodity)
    (s before pair.account pair.commodity) (t before pair.account pair.commodity)

-- what holds of everything holds of all in a list
pub all_of : {X : Type 0} (P : X → Type 0) → ((x : X) → P x) → (xs : List X) → AllByRecursion P xs
all_of P holds [] = tt
all_of P holds (x ∷ xs) = (holds x, all_of P holds xs)

pub ties_themselves : (ties : TieRule) (facts : Facts) (pairs : List Pair) → AllByRecursion (TiesAlike ties ties facts) pairs
ties_themselves ties facts = all_of (TiesAlike ties ties facts) (λ pair before method x y is other. refl)

-- what holds of two lists holds of each
all_parts : {X : Type 0} (P : X → Type 0) (xs ys : List X) → AllByRecursion P (xs ++ ys) → AllByRecursion P xs × AllByRecursion P ys
all_parts P [] ys all = (tt, all)
all_parts P (x ∷ xs) ys all = let parts = all_parts P xs ys all.1 in ((all.0, parts.0), parts.1)

-- ---- all postings

module _ (s t : TieRule) (a b : Facts) (entries : a.entries ≡ b.entries) where
  same_booking : (day : ℤ) (before : List Leg) (place : ℕ) (account : List ℕ) (amount : Amount) (first : Booking)
      → SameStanding a b account → HaveSameOf amount.commodity (a.held account) (b.held account)
      → SameOrders (IsHeldLot (with_legs account (a.held account) before) amount.commodity)
      (s before account amount.commodity) (t before account amount.commodity)
      → BooksTo (line_under s a day before place account amount) first
      → BooksTo (line_under t b day before place account amount) first
  same_booking day before place account amount first standing held orders h =
      let x = with_legs account (a.held account) before in
      let y = with_legs account (b.held account) before in
      let was = s before account amount.commodity in
      let moved : BooksTo (line_at (suc b.entries) place day (method_of (b.standing account)) account amount was x) first =
      subst (λ entry. BooksTo (line_at entry place day (method_of (b.standing account)) account amount was x) first)
      (ap suc entries)
      (subst (λ standing. BooksTo (line_at (suc a.entries) place day
      (method_of standing) account amount was x) first) standing h) in
      still_books (suc b.entries) place day (method_of (b.standing account)) account amount was (t before account amount.commodity) x y
      (same_with_legs (IsOf amount.commodity) account (a.held account) (b.held account) before
      (same_of amount.commodity (a.held account) (b.held account) held)) orders
      first moved

  same_continue : (Others More : List Leg → Bookings → Type 0)
      → ((legs : List Leg) (outcome : Bookings) → Others legs outcome → More legs outcome)
      → (before : List Leg) (outcome : Bookings) (first : Booking) → Continue Others before outcome first
      → Continue More before outcome first
  same_continue Others More on before outcome (Fails refused) h = h
  same_continue Others More on before outcome (Books booked) h = (h.0, on (before ++ booked.legs) h.0 h.1, h.2)

  same_with : (Others More : List Leg → Bookings → Type 0) →
      ((legs : List Leg) (outcome : Bookings) → Others legs outcome → More legs outcome)
      → (day : ℤ) (before : List Leg) (place : ℕ) (account : List ℕ) (amount : Option Amount) (outcome : Bookings)
      → SameStanding a b account → AlikeIn a b account amount → AllByRecursion (TiesAlike s t a) (pair_of account amount)
      → BooksWithUnder s Others a day before place account amount outcome
      → BooksWithUnder t More b day before place account amount outcome
  same_with Others More on day before place account None outcome standing alike ties h = on before outcome h
  same_with Others More on day before place account (Some amount) outcome standing alike ties h = (
    h.0,
    same_booking day before place account amount h.0 standing alike.1 (ties.0 before) h.1,
    same_continue Others More on before outcome h.0 h.2,
  )

  pub same_books : (day : ℤ) (before : List Leg) (place : ℕ) (postings : List Posting) (outcome : Bookings)
      → AllByRecursion (Alike a b) postings → AllByRecursion (TiesAlike s t a) (pairs_of postings)
      → BooksAllUnder s a day before place postings outcome → BooksAllUnder t b day before place postings outcome
  same_books day before place [] outcome alike ties h = h
  same_books day before place (p ∷ ps) outcome alike ties h =
      let parts = all_parts (TiesAlike s t a) (pair_of p.account p.amount) (pairs_of ps) ties in
      same_with (λ legs others. BooksAllUnder s a day legs (suc place) ps others)
      (λ legs others. BooksAllUnder t b day legs (suc place) ps others)
      (λ legs others books. same_books day legs (suc place) ps others alike.1 parts.1 books)
      day before place p.account p.amount outcome alike.0.0 alike.0.1 parts.0 h

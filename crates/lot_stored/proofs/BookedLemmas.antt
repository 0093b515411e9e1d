-- The legs of an accepted transaction: which entry, posting and place each bears, and where it stands.
use Rattle.std.specs.Prelude.{◌≡◌, ◌≢◌, Bool, true, false, ℕ, suc, ◌<◌, ◌≤◌, cond, List, [], ◌∷◌, ◌++◌, Option, None, Some, is_none, ℤ, ⊤}
use Rattle.std.specs.List.{AllByRecursion}
use Rattle.std.proofs.Common.{refl, sym, subst, ◌∙◌, arith}
use Rattle.sqlite.specs.Tree.{IsAscending}
use Rattle.sqlite_keyed.proofs.ListLemmas.{all-append, all_both, all_weaker, ascending-append}
use Rattle.lot_cost.specs.declared.lot_key.LotKey.{LotKey}
use Rattle.lot_cost.specs.declared.cost.Cost.{Cost}
use Rattle.lot_command.specs.declared.transaction.Amount.{Amount}
use Rattle.lot_command.specs.declared.transaction.Posting.{Posting}
use Rattle.lot_command.specs.declared.transaction.Transaction.{Transaction as TransactionOf}
use Rattle.lot_book.specs.declared.leg.Leg.{Leg}
use Rattle.lot_book.specs.declared.refusal.Refusal.{Refusal}
use Rattle.lot_book.specs.Balance.{elided_postings, fill_from, fill_of, left_over, residuals, weights_in}
use Rattle.lot_book.specs.Booking.{All, Booked, Booking, Bookings, Books, BooksAllUnder, BooksTo, BooksWithUnder, Continue, Fails, HasLegs, IsBooked, Line, Stopped, TieRule, follow, legs_in, line_under}
use Rattle.lot_book.specs.Facts.{Facts}
use Rattle.lot_book.specs.Leg.{legs_at_lots}
use Rattle.lot_book.specs.Step.{Accept, JudgesTransactionUnder, all_legs, concluded, first_of, last_conditions}
use Rattle.lot_laws.proofs.LawBooks.{none_holds}

-- ---- the legs of one posting

-- legs of a posting of an entry, numbered on from a place
abbrev pub AreNumbered : ℕ → ℕ → ℕ → List Leg → Type 0
AreNumbered entry posting place [] = ⊤
AreNumbered entry posting place (leg ∷ legs) =
    (leg.entry ≡ entry) × (leg.posting ≡ posting) × (leg.place ≡ place) × AreNumbered entry posting (suc place) legs

-- a leg of an account and a commodity
abbrev pub IsOf : List ℕ → List ℕ → Leg → Type 0
IsOf account commodity leg = (leg.position.account ≡ account) × (leg.position.commodity ≡ commodity)

-- a plain leg of an account
abbrev pub IsPlainOf : List ℕ → Leg → Type 0
IsPlainOf account leg = (leg.position.account ≡ account) × (leg.position.lot ≡ None)

-- a posting that is booked at that place of an entry, with an account and an amount
pub record IsAt (entry posting : ℕ) (account : List ℕ) (amount : Amount) (booked : Booked) : Type 0 where
  pub place : booked.place ≡ posting
  pub numbered : AreNumbered entry posting 0 booked.legs
  pub of : AllByRecursion (IsOf account amount.commodity) booked.legs

numbered_lots : (entry posting : ℕ) (account commodity : List ℕ) (place : ℕ) (lots : List (LotKey × ℤ))
    → AreNumbered entry posting place (legs_at_lots entry posting account commodity place lots)
numbered_lots entry posting account commodity place [] = tt
numbered_lots entry posting account commodity place (lot ∷ lots) =
    (refl, refl, refl, numbered_lots entry posting account commodity (suc place) lots)

of_lots : (entry posting : ℕ) (account commodity : List ℕ) (place : ℕ) (lots : List (LotKey × ℤ))
    → AllByRecursion (IsOf account commodity) (legs_at_lots entry posting account commodity place lots)
of_lots entry posting account commodity place [] = tt
of_lots entry posting account commodity place (lot ∷ lots) =
    ((refl, refl), of_lots entry posting account commodity (suc place) lots)

numbered_posting : (line : Line) (cost : Option Cost) (reduces : Bool) (legs : List Leg) → HasLegs line cost reduces legs
    → AreNumbered line.entry line.place 0 legs
numbered_posting line None reduces legs h = subst (AreNumbered line.entry line.place 0) (sym h.1) (refl, refl, refl, tt)
numbered_posting line (Some cost) reduces legs h =
    subst (AreNumbered line.entry line.place 0) (sym h.2)
    (numbered_lots line.entry line.place line.account line.amount.commodity 0 h.0)

of_posting : (line : Line) (cost : Option Cost) (reduces : Bool) (legs : List Leg) → HasLegs line cost reduces legs
    → AllByRecursion (IsOf line.account line.amount.commodity) legs
of_posting line None reduces legs h = subst (AllByRecursion (IsOf line.account line.amount.commodity)) (sym h.1) ((refl, refl), tt)
of_posting line (Some cost) reduces legs h =
    subst (AllByRecursion (IsOf line.account line.amount.commodity)) (sym h.2)
    (of_lots line.entry line.place line.account line.amount.commodity 0 h.0)

-- ---- all postings with amounts

-- a posting, and those behind it
abbrev pub WalksOn : (List Booked → Type 0) → ℕ → ℕ → List ℕ → Option Amount → List Booked → Type 0
WalksOn Others entry place account None booked = Others booked
WalksOn Others entry place account (Some amount) booked =
    (first : Booked) × (more : List Booked) × (booked ≡ first ∷ more) × IsAt entry place account amount first × Others more

-- the postings with amounts, of which the first posting stands at that place, are these
abbrev pub Walks : ℕ → ℕ → List Posting → List Booked → Type 0
Walks entry place [] booked = booked ≡ []
Walks entry place (posting ∷ postings) booked =
    WalksOn (Walks entry (suc place) postings) entry place posting.account posting.amount booked

booked_at : (ties : TieRule) (facts : Facts) (day : ℤ) (before : List Leg) (place : ℕ) (account : List ℕ) (amount : Amount) (booked : Booked)
    → IsBooked (line_under ties facts day before place account amount) booked → IsAt (suc facts.entries) place account amount booked
booked_at ties facts day before place account amount booked is =
    let line = line_under ties facts day before place account amount in
    record {
      place = is.place;
      numbered = numbered_posting line line.amount.cost booked.reduces booked.legs is.legs;
      of = of_posting line line.amount.cost booked.reduces booked.legs is.legs;
    }

module _ (ties : TieRule) (facts : Facts) (day : ℤ) where
  abbrev Goes : ℕ → List Posting → Type 0
  Goes place postings = (before : List Leg) (booked : List Booked) → BooksAllUnder ties facts day before place postings (All booked)
      → Walks (suc facts.entries) place postings booked

  goes_followed : (before : List Leg) (place : ℕ) (account : List ℕ) (amount : Amount) (postings : List Posting)
      (booked : List Booked) (first : Booked) (others : Bookings)
      → Goes (suc place) postings → IsBooked (line_under ties facts day before place account amount) first
      → BooksAllUnder ties facts day (before ++ first.legs) (suc place) postings others → All booked ≡ follow first others
      → WalksOn (Walks (suc facts.entries) (suc place) postings) (suc facts.entries) place account (Some amount) booked
  goes_followed before place account amount postings booked first (Stopped refused) rest is books e = absurd cc
  goes_followed before place account amount postings booked first (All more) rest is books e =
      (first, more, cc, booked_at ties facts day before place account amount first is, rest (before ++ first.legs) more books)

  goes_on : (before : List Leg) (place : ℕ) (account : List ℕ) (amount : Amount) (postings : List Posting) (booked : List Booked)
      (booking : Booking)
      → Goes (suc place) postings → BooksTo (line_under ties facts day before place account amount) booking
      → Continue (λ legs others. BooksAllUnder ties facts day legs (suc place) postings others) before (All booked) booking
      → WalksOn (Walks (suc facts.entries) (suc place) postings) (suc facts.entries) place account (Some amount) booked
  goes_on before place account amount postings booked (Fails refused) rest books h = absurd cc
  goes_on before place account amount postings booked (Books first) rest books h =
      goes_followed before place account amount postings booked first h.0 rest books h.1 h.2

  goes_with : (before : List Leg) (place : ℕ) (account : List ℕ) (amount : Option Amount) (postings : List Posting)
      (booked : List Booked)
      → Goes (suc place) postings
      → BooksWithUnder ties (λ legs others. BooksAllUnder ties facts day legs (suc place) postings others) facts day before place account amount (All booked)
      → WalksOn (Walks (suc facts.entries) (suc place) postings) (suc facts.entries) place account amount booked
  goes_with before place account None postings booked rest books = rest before booked books
  goes_with before place account (Some amount) postings booked rest books =
      goes_on before place account amount postings booked books.0 rest books.1 books.2

  pub walks : (place : ℕ) (postings : List Posting) → Goes place postings
  walks place [] before booked books = cc
  walks place (posting ∷ postings) before booked books =
      goes_with before place posting.account posting.amount postings booked (walks (suc place) postings) books

-- ---- what is so of their legs

-- the first leg comes before the other in the posting that both are of
abbrev pub Precedes : Leg → Leg → Type 0
Precedes a b = a.entry ≡ b.entry → a.posting ≡ b.posting → a.place < b.place

-- a leg of an entry, of a posting at that place or behind it
abbrev pub IsFrom : ℕ → ℕ → Leg → Type 0
IsFrom entry place leg = (leg.entry ≡ entry) × (place ≤ leg.posting)

-- legs of a posting, from that place on
above : (entry posting place least : ℕ) (legs : List Leg) → AreNumbered entry posting place legs → least < place
    → AllByRecursion (λ (leg : Leg). least < leg.place) legs
above entry posting place least [] are less = tt
above entry posting place least (leg ∷ legs) are less =
    (subst (λ n. least < n) (sym are.2) less, above entry posting (suc place) least legs are.3 (omega arith))

pub numbered_rise : (entry posting place : ℕ) (legs : List Leg) → AreNumbered entry posting place legs → IsAscending Precedes legs
numbered_rise entry posting place [] are = tt
numbered_rise entry posting place (leg ∷ legs) are = (
  all_weaker (λ (b : Leg). leg.place < b.place) (Precedes leg) (λ b less _ _. less) legs
      (above entry posting (suc place) leg.place legs are.3 (subst (λ n. n < suc place) (sym are.2) (omega arith))),
  numbered_rise entry posting (suc place) legs are.3,
)

pub numbered_from : (entry posting place : ℕ) (legs : List Leg) → AreNumbered entry posting place legs
    → AllByRecursion (λ (leg : Leg). (leg.entry ≡ entry) × (leg.posting ≡ posting)) legs
numbered_from entry posting place [] are = tt
numbered_from entry posting place (leg ∷ legs) are = ((are.0, are.1), numbered_from entry posting (suc place) legs are.3)

-- those of a later posting come later
from_later : (entry place : ℕ) (legs : List Leg) → AllByRecursion (IsFrom entry (suc place)) legs
    → AllByRecursion (IsFrom entry place) legs
from_later entry place legs all =
    all_weaker (IsFrom entry (suc place)) (IsFrom entry place) (λ leg from. (from.0, (omega (arith, from.1)))) legs all

apart_rises : (entry place : ℕ) (legs more : List Leg)
    → AllByRecursion (λ (leg : Leg). (leg.entry ≡ entry) × (leg.posting ≡ place)) legs
    → AllByRecursion (IsFrom entry (suc place)) more
    → AllByRecursion (λ (a : Leg). AllByRecursion (Precedes a) more) legs
apart_rises entry place legs more here later =
    all_weaker (λ (leg : Leg). (leg.entry ≡ entry) × (leg.posting ≡ place)) (λ (a : Leg). AllByRecursion (Precedes a) more)
    (λ a is. all_weaker (IsFrom entry (suc place)) (Precedes a)
    (λ b from _ one. absurd (before place a.posting b.posting is.1 from.1 one)) more later) legs here
  where
    before : (n a b : ℕ) → a ≡ n → suc n ≤ b → a ≡ b → ⊥
    before n a b is from one = omega arith

pub legs_from : (entry place : ℕ) (postings : List Posting) (booked : List Booked) → Walks entry place postings booked
    → AllByRecursion (IsFrom entry place) (legs_in booked)
legs_from entry place [] booked walk = subst (λ bs. AllByRecursion (IsFrom entry place) (legs_in bs)) (sym walk) tt
legs_from entry place (posting ∷ postings) booked walk =
    elim posting.amount as (λ amount. WalksOn (Walks entry (suc place) postings) entry place posting.account amount booked
    → AllByRecursion (IsFrom entry place) (legs_in booked)) [
      | None ↦ λ rest. from_later entry place (legs_in booked) (legs_from entry (suc place) postings booked rest)
      | Some amount ↦ λ all.
          subst (λ bs. AllByRecursion (IsFrom entry place) (legs_in bs)) (sym all.2)
          (all-append (IsFrom entry place) all.0.legs (legs_in all.1)
          (all_weaker (λ (leg : Leg). (leg.entry ≡ entry) × (leg.posting ≡ place)) (IsFrom entry place)
          (λ leg is. (is.0, subst (λ n. place ≤ n) (sym is.1) (omega arith))) all.0.legs
          (numbered_from entry place 0 all.0.legs all.3.numbered))
          (from_later entry place (legs_in all.1) (legs_from entry (suc place) postings all.1 all.4)))
    ] walk

pub legs_rise : (entry place : ℕ) (postings : List Posting) (booked : List Booked) → Walks entry place postings booked
    → IsAscending Precedes (legs_in booked)
legs_rise entry place [] booked walk = subst (λ bs. IsAscending Precedes (legs_in bs)) (sym walk) tt
legs_rise entry place (posting ∷ postings) booked walk =
    elim posting.amount as (λ amount. WalksOn (Walks entry (suc place) postings) entry place posting.account amount booked
    → IsAscending Precedes (legs_in booked)) [
      | None ↦ λ rest. legs_rise entry (suc place) postings booked rest
      | Some amount ↦ λ all.
          subst (λ bs. IsAscending Precedes (legs_in bs)) (sym all.2)
          (ascending-append Precedes all.0.legs (legs_in all.1)
          (numbered_rise entry place 0 all.0.legs all.3.numbered)
          (legs_rise entry (suc place) postings all.1 all.4)
          (apart_rises entry place all.0.legs (legs_in all.1) (numbered_from entry place 0 all.0.legs all.3.numbered)
          (legs_from entry (suc place) postings all.1 all.4)))
    ] walk

-- ---- the elided posting

-- all legs are of other postings than the one at that place
abbrev pub AreApart : List Leg → ℕ × List ℕ → Type 0
AreApart legs elided = AllByRecursion (λ (leg : Leg). leg.posting ≢ elided.0) legs

elided_from : (place : ℕ) (postings : List Posting)
    → AllByRecursion (λ (elided : ℕ × List ℕ). place ≤ elided.0) (elided_postings place postings)
elided_from place [] = tt
elided_from place (posting ∷ postings) =
    let rest : AllByRecursion (λ (elided : ℕ × List ℕ). place ≤ elided.0) (elided_postings (suc place) postings) =
    all_weaker (λ (elided : ℕ × List ℕ). suc place ≤ elided.0) (λ (elided : ℕ × List ℕ). place ≤ elided.0)
    (λ elided later. omega (arith, later)) (elided_postings (suc place) postings) (elided_from (suc place) postings) in
    elim (is_none posting.amount) as (λ b. AllByRecursion (λ (elided : ℕ × List ℕ). place ≤ elided.0)
    (cond b ((place, posting.account) ∷ elided_postings (suc place) postings) (elided_postings (suc place) postings))) [
      | true ↦ (omega arith, rest)
      | false ↦ rest
    ]

pub elided_apart : (entry place : ℕ) (postings : List Posting) (booked : List Booked) → Walks entry place postings booked
    → AllByRecursion (AreApart (legs_in booked)) (elided_postings place postings)
elided_apart entry place [] booked walk = tt
elided_apart entry place (posting ∷ postings) booked walk =
    elim posting.amount as (λ amount. WalksOn (Walks entry (suc place) postings) entry place posting.account amount booked
    → AllByRecursion (AreApart (legs_in booked)) (cond (is_none amount)
    ((place, posting.account) ∷ elided_postings (suc place) postings) (elided_postings (suc place) postings))) [
      | None ↦ λ rest. (
        all_weaker (IsFrom entry (suc place)) (λ (leg : Leg). leg.posting ≢ place)
            (λ leg from same. absurd (beyond place leg.posting from.1 same)) (legs_in booked)
            (legs_from entry (suc place) postings booked rest),
        elided_apart entry (suc place) postings booked rest,
      )
      | Some amount ↦ λ all.
          subst (λ bs. AllByRecursion (AreApart (legs_in bs)) (elided_postings (suc place) postings)) (sym all.2)
          (all_both (λ (elided : ℕ × List ℕ). suc place ≤ elided.0) (AreApart (legs_in all.1))
          (AreApart (all.0.legs ++ legs_in all.1))
          (λ elided later others. all-append (λ (leg : Leg). leg.posting ≢ elided.0) all.0.legs (legs_in all.1)
          (all_weaker (λ (leg : Leg). (leg.entry ≡ entry) × (leg.posting ≡ place)) (λ (leg : Leg). leg.posting ≢ elided.0)
          (λ leg is same. absurd (beyond place elided.0 later (sym same ∙ is.1))) all.0.legs
          (numbered_from entry place 0 all.0.legs all.3.numbered)) others)
          (elided_postings (suc place) postings) (elided_from (suc place) postings)
          (elided_apart entry (suc place) postings all.1 all.4))
    ] walk
  where
    beyond : (n m : ℕ) → suc n ≤ m → m ≡ n → ⊥
    beyond n m later same = omega arith

fill_numbered : (entry posting : ℕ) (account : List ℕ) (place : ℕ) (rs : List (List ℕ × ℤ))
    → AreNumbered entry posting place (fill_from entry posting account place rs)
fill_numbered entry posting account place [] = tt
fill_numbered entry posting account place (r ∷ rs) =
    (refl, refl, refl, fill_numbered entry posting account (suc place) rs)

pub fill_plain : (entry posting : ℕ) (account : List ℕ) (place : ℕ) (rs : List (List ℕ × ℤ))
    → AllByRecursion (IsPlainOf account) (fill_from entry posting account place rs)
fill_plain entry posting account place [] = tt
fill_plain entry posting account place (r ∷ rs) = ((refl, refl), fill_plain entry posting account (suc place) rs)

-- legs, and those of the fill behind them
with_fill : (entry : ℕ) (legs : List Leg) (elided : List (ℕ × List ℕ)) (rs : List (List ℕ × ℤ))
    → AllByRecursion (λ (leg : Leg). leg.entry ≡ entry) legs → IsAscending Precedes legs → AllByRecursion (AreApart legs) elided
    → AllByRecursion (λ (leg : Leg). leg.entry ≡ entry) (legs ++ fill_of entry elided rs)
    × IsAscending Precedes (legs ++ fill_of entry elided rs)
with_fill entry legs [] rs of up apart = (
  all-append (λ (leg : Leg). leg.entry ≡ entry) legs [] of tt,
  ascending-append Precedes legs [] up tt (all_weaker (λ (leg : Leg). leg.entry ≡ entry) (λ a. ⊤) (λ a is. tt) legs of),
)
with_fill entry legs (elided ∷ more) rs of up apart =
    let fill = fill_from entry elided.0 elided.1 0 (left_over rs) in
    let are : AreNumbered entry elided.0 0 fill = fill_numbered entry elided.0 elided.1 0 (left_over rs) in
    let from = numbered_from entry elided.0 0 fill are in (
      all-append (λ (leg : Leg). leg.entry ≡ entry) legs fill of
          (all_weaker (λ (leg : Leg). (leg.entry ≡ entry) × (leg.posting ≡ elided.0)) (λ (leg : Leg). leg.entry ≡ entry)
          (λ leg is. is.0) fill from),
      ascending-append Precedes legs fill up (numbered_rise entry elided.0 0 fill are)
          (all_weaker (λ (leg : Leg). leg.posting ≢ elided.0) (λ (a : Leg). AllByRecursion (Precedes a) fill)
          (λ a other. all_weaker (λ (leg : Leg). (leg.entry ≡ entry) × (leg.posting ≡ elided.0)) (Precedes a)
          (λ b is _ one. absurd (other (one ∙ is.1))) fill from) legs apart.0),
    )

-- ---- an accepted transaction

-- the postings with amounts of an accepted transaction, and its legs, where ties are decided so
pub record IsBookedAs (ties : TieRule) (facts : Facts) (t : TransactionOf) (legs : List Leg) : Type 0 where
  pub booked : List Booked
  pub all : BooksAllUnder ties facts t.day [] 1 t.postings (All booked)
  pub same : legs ≡ all_legs facts t booked

pub booked_as : (ties : TieRule) (facts : Facts) (t : TransactionOf) (refused : Option Refusal) (legs : List Leg)
    → JudgesTransactionUnder ties facts t refused (Accept legs) → IsBookedAs ties facts t legs
booked_as ties facts t (Some refusal) legs e = absurd cc
booked_as ties facts t None legs judges = by judges.0 judges.1 judges.2
  where
    by : (bookings : Bookings) → BooksAllUnder ties facts t.day [] 1 t.postings bookings → Accept legs ≡ concluded facts t bookings
        → IsBookedAs ties facts t legs
    by (Stopped refusal) books e = absurd cc
    by (All booked) books e = record {
      booked = booked;
      all = books;
      same = (none_holds (first_of (last_conditions facts t booked)) legs (all_legs facts t booked) e).1;
    }

-- the legs of an accepted transaction bear the number of its entry, and those of each posting rise
pub transaction_legs : (ties : TieRule) (facts : Facts) (t : TransactionOf) (legs : List Leg) → IsBookedAs ties facts t legs
    → AllByRecursion (λ (leg : Leg). leg.entry ≡ suc facts.entries) legs × IsAscending Precedes legs
transaction_legs ties facts t legs is =
    let entry = suc facts.entries in
    let walk = walks ties facts t.day 1 t.postings [] is.booked is.all in
    let both = with_fill entry (legs_in is.booked) (elided_postings 1 t.postings) (residuals (weights_in is.booked))
    (all_weaker (IsFrom entry 1) (λ (leg : Leg). leg.entry ≡ entry) (λ leg from. from.0) (legs_in is.booked)
    (legs_from entry 1 t.postings is.booked walk))
    (legs_rise entry 1 t.postings is.booked walk)
    (elided_apart entry 1 t.postings is.booked walk) in
    subst (λ ls. AllByRecursion (λ (leg : Leg). leg.entry ≡ entry) ls × IsAscending Precedes ls) (sym is.same) both

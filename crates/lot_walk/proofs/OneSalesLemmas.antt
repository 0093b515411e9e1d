-- A book has one list of sales, whatever its place of migration: the legs of its entries say what was booked.
use Rattle.std.specs.Prelude.{◌≡◌, ℕ, suc, Bool, true, false, List, [], ◌∷◌, ◌++◌, length, Option, None, Some, ℤ}
use Rattle.std.specs.List.{AllByRecursion}
use Rattle.std.proofs.Common.{refl, sym, ap, ap₂, subst, ◌∙◌}
use Rattle.std.proofs.lemmas.Bool.{true≢false}
use Rattle.lot_cost.specs.declared.cost.Cost.{Cost}
use Rattle.lot_command.specs.declared.command.Command.{Command}
use Rattle.lot_command.specs.declared.command.Command.TheVariants.{Opening, Closing, Declaring, Quoting, Transaction}
use Rattle.lot_command.specs.declared.transaction.Amount.{Amount}
use Rattle.lot_command.specs.declared.transaction.Posting.{Posting}
use Rattle.lot_book.specs.Book.{ContinuesIn, IsBookIn}
use Rattle.lot_book.specs.Booking.{All, Booked, Booking, Bookings, Books, BooksAllUnder, BooksTo, Continue, Fails, HasLegs, IsBooked, Stopped, TieRule, follow, line_under}
use Rattle.lot_book.specs.Edition.{Migration, edition_on, ties_in}
use Rattle.lot_book.specs.Facts.{Entry, Facts, facts_of}
use Rattle.lot_book.specs.Sale.{SaleParts, AreSalesUnder, sales_in}
use Rattle.lot_book.specs.Step.{Accept, JudgesUnder, first_conditions, first_of}
use Rattle.lot_book.specs.declared.leg.Leg.{Leg}
use Rattle.lot_laws.specs.Collects.{Collects}
use Rattle.lot_laws.proofs.CollectLemmas.{over_collected}
use Rattle.lot_laws.proofs.LawBooks.{accepted, over_placed, posted}
use Rattle.lot_laws.proofs.StepLemmas.{books_one}
use Rattle.lot_stored.specs.Kept.{AreSalesOfEntry, SalesOf, legs_of_posting, numbered}
use Rattle.lot_stored.proofs.BookedLemmas.{booked_as}
use Rattle.lot_stored.proofs.SalesLemmas.{all_booked}
use Rattle.lot_walk.proofs.SaleLegLemmas.{HasOwn, own_in_all}

-- ---- one posting

module _ (s t : TieRule) (facts : Facts) (day : ℤ) where
  -- what is held says whether a posting takes lots away, however ties are decided
  one_kind : (before : List Leg) (place : ℕ) (account : List ℕ) (amount : Amount) (cost : Option Cost) (a b : Bool) (legs more : List Leg)
      → HasLegs (line_under s facts day before place account amount) cost a legs
      → HasLegs (line_under t facts day before place account amount) cost b more → a ≡ b
  one_kind before place account amount None a b legs more h k = h.0 ∙ sym k.0
  one_kind before place account amount (Some cost) true true legs more h k = refl
  one_kind before place account amount (Some cost) false false legs more h k = refl
  one_kind before place account amount (Some cost) true false legs more h k = absurd (true≢false (sym h.1.0.2 ∙ k.1.0.2))
  one_kind before place account amount (Some cost) false true legs more h k = absurd (true≢false (sym k.1.0.2 ∙ h.1.0.2))

  one_posting : (before : List Leg) (place : ℕ) (account : List ℕ) (amount : Amount) (a b : Booked)
      → IsBooked (line_under s facts day before place account amount) a → IsBooked (line_under t facts day before place account amount) b
      → a.legs ≡ b.legs → a ≡ b
  one_posting before place account amount a b is other legs = λ i. record {
    place = (is.place ∙ sym other.place) i;
    account = (is.account ∙ sym other.account) i;
    amount = (is.amount ∙ sym other.amount) i;
    reduces = one_kind before place account amount amount.cost a.reduces b.reduces a.legs b.legs is.legs other.legs i;
    legs = legs i;
  }

-- ---- a transaction

-- what is booked of a posting with an amount, and of those behind it
record BooksFirst (ties : TieRule) (facts : Facts) (day : ℤ) (before : List Leg) (place : ℕ) (account : List ℕ) (amount : Amount)
    (postings : List Posting) (booked : List Booked) : Type 0 where
  first : Booked
  more : List Booked
  all : booked ≡ first ∷ more
  is : IsBooked (line_under ties facts day before place account amount) first
  behind : BooksAllUnder ties facts day (before ++ first.legs) (suc place) postings (All more)

module _ (ties : TieRule) (facts : Facts) (day : ℤ) (before : List Leg) (place : ℕ) (account : List ℕ) (amount : Amount)
    (postings : List Posting) (booked : List Booked) where
  first_followed : (first : Booked) (others : Bookings) → IsBooked (line_under ties facts day before place account amount) first
      → BooksAllUnder ties facts day (before ++ first.legs) (suc place) postings others → All booked ≡ follow first others
      → BooksFirst ties facts day before place account amount postings booked
  first_followed first (Stopped refused) is behind e = absurd cc
  first_followed first (All more) is behind e = record { first = first; more = more; all = cc; is = is; behind = behind }

  first_on : (booking : Booking) → BooksTo (line_under ties facts day before place account amount) booking
      → Continue (λ legs others. BooksAllUnder ties facts day legs (suc place) postings others) before (All booked) booking
      → BooksFirst ties facts day before place account amount postings booked
  first_on (Fails refused) books h = absurd cc
  first_on (Books first) books h = first_followed first h.0 books h.1 h.2

  books_first : BooksAllUnder ties facts day before place (posted account (Some amount) ∷ postings) (All booked)
      → BooksFirst ties facts day before place account amount postings booked
  books_first books = first_on books.0 books.1 books.2

-- however ties are decided, what is booked of postings is one list where each has its legs among these
module _ (s t : TieRule) (facts : Facts) (day : ℤ) (legs : List Leg) where
  abbrev number : ℕ
  number = suc facts.entries

  abbrev AreOwn : List Booked → Type 0
  AreOwn = AllByRecursion (HasOwn number legs)

  abbrev IsOnly : ℕ → List Leg → List Posting → List Booked → Type 0
  IsOnly place before postings a =
      AreOwn a → (b : List Booked) → BooksAllUnder t facts day before place postings (All b) → AreOwn b → a ≡ b

  first_only : (before : List Leg) (place : ℕ) (account : List ℕ) (amount : Amount) (postings : List Posting) (first : Booked) (more : List Booked)
      → IsBooked (line_under s facts day before place account amount) first → IsOnly (suc place) (before ++ first.legs) postings more
      → IsOnly place before (posted account (Some amount) ∷ postings) (first ∷ more)
  first_only before place account amount postings first more is rest own b books own_b =
      let f = books_first t facts day before place account amount postings b books in
      let owns : AreOwn (f.first ∷ f.more) = subst AreOwn f.all own_b in
      let legs_one : first.legs ≡ f.first.legs =
      sym own.0 ∙ ap (λ n. legs_of_posting number n legs) (is.place ∙ sym f.is.place) ∙ owns.0 in
      let same = one_posting s t facts day before place account amount first f.first is f.is legs_one in
      let others = rest own.1 f.more
      (subst (λ ls. BooksAllUnder t facts day (before ++ ls) (suc place) postings (All f.more)) (sym legs_one) f.behind) owns.1 in
      ap₂ (λ (b : Booked) (bs : List Booked). b ∷ bs) same others ∙ sym f.all

  one_booked : (place : ℕ) (postings : List Posting) (before : List Leg) (a : List Booked)
      → BooksAllUnder s facts day before place postings (All a) → IsOnly place before postings a
  one_booked = over_placed s facts day IsOnly
      (λ place before own b books own_b. sym (all_booked b [] books))
      (λ place before account postings booked rest. rest)
      first_only

-- ---- a book

module _ (s t : TieRule) (facts : Facts) (legs : List Leg) where
  one_of_command : (command : Command) (a b : List (ℕ × SaleParts))
      → JudgesUnder s facts command (Accept legs) → JudgesUnder t facts command (Accept legs)
      → AreSalesUnder s facts command a → AreSalesUnder t facts command b → a ≡ b
  one_of_command (Opening o) a b judges other are those = are ∙ sym those
  one_of_command (Closing c) a b judges other are those = are ∙ sym those
  one_of_command (Declaring d) a b judges other are those = are ∙ sym those
  one_of_command (Quoting q) a b judges other are those = are ∙ sym those
  one_of_command (Transaction tx) a b judges other are those =
      let first = first_of (first_conditions facts tx) in
      let is = booked_as s facts tx first legs judges in
      let is_other = booked_as t facts tx first legs other in
      let same = one_booked s t facts tx.day legs 1 tx.postings [] is.booked is.all (own_in_all s facts tx legs is) is_other.booked is_other.all
      (own_in_all t facts tx legs is_other) in
      are.2
      ∙ ap (sales_in tx.day)
      (all_booked are.0 is.booked (books_one s facts tx.day [] 1 tx.postings (All are.0) (All is.booked) are.1 is.all)
      ∙ same
      ∙ all_booked is_other.booked those.0 (books_one t facts tx.day [] 1 tx.postings (All is_other.booked) (All those.0) is_other.all those.1))
      ∙ sym those.2

module _ (p q : Migration) where
  abbrev IsOnlyList : List Entry → List Entry → List (ℕ × (ℕ × SaleParts)) → Type 0
  IsOnlyList before entries a = ContinuesIn p before entries → ContinuesIn q before entries
      → (b : List (ℕ × (ℕ × SaleParts))) → Collects (AreSalesOfEntry q) before entries b → a ≡ b

  one_of_entry : (before : List Entry) (entry : Entry) (entries : List Entry) (a b : List (ℕ × (ℕ × SaleParts)))
      → ContinuesIn p before (entry ∷ entries) → ContinuesIn q before (entry ∷ entries)
      → AreSalesOfEntry p before entry a → AreSalesOfEntry q before entry b → a ≡ b
  one_of_entry before entry entries a b is other are those =
      are.2
      ∙ ap (numbered (suc (length before)))
      (one_of_command (ties_in (edition_on p before) before) (ties_in (edition_on q before) before) (facts_of before entry.key)
      entry.legs entry.command are.0 those.0
      (accepted (edition_on p before) before entry.key entry.command entry.legs is.0).1
      (accepted (edition_on q before) before entry.key entry.command entry.legs other.0).1 are.1 those.1)
      ∙ sym those.2

  pub one_sales_of_book : (entries : List Entry) (a b : List (ℕ × (ℕ × SaleParts))) → IsBookIn p entries → IsBookIn q entries
      → SalesOf p entries a → SalesOf q entries b → a ≡ b
  one_sales_of_book entries a b is other are those =
      over_collected (AreSalesOfEntry p) IsOnlyList
      (λ before is other b those. sym those)
      (λ before entry entries first more are rest is other b those.
      ap₂ (λ (xs ys : List (ℕ × (ℕ × SaleParts))). xs ++ ys)
      (one_of_entry before entry entries first those.0 is other are those.2) (rest is.1 other.1 those.1 those.3)
      ∙ sym those.4)
      [] entries a are is other b those

-- The legs of a sale are all the legs of its posting.
use Rattle.std.specs.Prelude.{◌≡◌, ◌≢◌, Bool, true, false, ℕ, suc, ◌≤◌, ◌==◌, ◌&&◌, cond, filter, List, [], ◌∷◌, ◌++◌, length, Option, None, Some, is_none, ℤ}
use Rattle.std.specs.List.{AllByRecursion}
use Rattle.std.proofs.Common.{refl, sym, ap, subst, ◌∙◌, inl, inr, arith, append_assoc}
use Rattle.std.proofs.lemmas.Bool.{cases_Bool}
use Rattle.std.proofs.lemmas.Bool.Decides.{Decides-eqb}
use Rattle.std.proofs.lemmas.Grind.{flat_map-append}
use Rattle.std.proofs.lemmas.List.{append-nil}
use Rattle.std.proofs.lemmas.List.Elements.{filter-append}
use Rattle.sqlite_keyed.proofs.ListLemmas.{all-append, all_both, all_map, all_weaker}
use Rattle.lot_cost.specs.declared.lot_key.LotKey.{LotKey}
use Rattle.lot_command.specs.declared.command.Command.{Command}
use Rattle.lot_command.specs.declared.command.Command.TheVariants.{Opening, Closing, Declaring, Quoting, Transaction}
use Rattle.lot_command.specs.declared.transaction.Amount.{Amount}
use Rattle.lot_command.specs.declared.transaction.Posting.{Posting}
use Rattle.lot_command.specs.declared.transaction.Transaction.{Transaction as TransactionOf}
use Rattle.lot_book.specs.Balance.{elided_postings, fill_from, fill_of, left_over, residuals, weights_in}
use Rattle.lot_book.specs.Book.{ContinuesIn, IsBookIn}
use Rattle.lot_book.specs.Booking.{All, Booked, Booking, Bookings, Books, BooksAllUnder, BooksTo, BooksWithUnder, Continue, Fails, IsBooked, Stopped, TieRule, follow, legs_in, line_under}
use Rattle.lot_book.specs.Edition.{Migration, edition_on, ties_in}
use Rattle.lot_book.specs.Facts.{Entry, Facts, facts_of, legs_of}
use Rattle.lot_book.specs.Leg.{leg_at, legs_at_lots}
use Rattle.lot_book.specs.Sale.{AreLegsOf, SaleParts, AreSalesUnder, lots_in_legs, sales_in, sales_of}
use Rattle.lot_book.specs.Step.{Accept, JudgesUnder, first_conditions, first_of}
use Rattle.lot_book.specs.declared.leg.Leg.{Leg}
use Rattle.lot_laws.specs.Collects.{Collects}
use Rattle.lot_laws.proofs.CollectLemmas.{over_collected}
use Rattle.lot_laws.proofs.LawBooks.{accepted}
use Rattle.lot_laws.proofs.LawSales.{booked_sale}
use Rattle.lot_laws.proofs.StepLemmas.{books_one}
use Rattle.lot_book.proofs.SaleLemmas.{lots_in_legs-lots}
use Rattle.lot_stored.proofs.BookedLemmas.{IsBookedAs, IsFrom, Walks, WalksOn, booked_as, legs_from, numbered_from, walks}
use Rattle.lot_stored.proofs.NumberLemmas.{AreOfEntries, numbered_next, one_longer, own_legs}
use Rattle.lot_stored.proofs.SalesLemmas.{all_booked}
use Rattle.lot_stored.specs.Kept.{AreSalesOfEntry, SalesOf, is_of_posting, legs_of_posting}
use Rattle.lot_walk.specs.Gains.{HasItsLegs}

-- ---- filters

all_pass : {X : Type 0} (p : X → Bool) (xs : List X) → AllByRecursion (λ x. p x ≡ true) xs → filter p xs ≡ xs
all_pass p [] all = refl
all_pass p (x ∷ xs) all = rw (all.0, all_pass p xs all.1) refl

none_pass : {X : Type 0} (p : X → Bool) (xs : List X) → AllByRecursion (λ x. p x ≡ false) xs → filter p xs ≡ []
none_pass p [] all = refl
none_pass p (x ∷ xs) all = rw (all.0, none_pass p xs all.1) refl

not_same : (a b : ℕ) → a ≢ b → (a == b) ≡ false
not_same a b apart = elim (cases_Bool (a == b)) [
  | inl same ↦ absurd (apart ((Decides-eqb a b).0 same))
  | inr other ↦ other
]

and_false : (b : Bool) → (b && false) ≡ false
and_false true = refl
and_false false = refl

is_its : (entry posting : ℕ) (leg : Leg) → leg.entry ≡ entry → leg.posting ≡ posting → is_of_posting entry posting leg ≡ true
is_its entry posting leg of at = rw ((Decides-eqb leg.entry entry).1 of, (Decides-eqb leg.posting posting).1 at) refl

other_entry : (entry posting : ℕ) (leg : Leg) → leg.entry ≢ entry → is_of_posting entry posting leg ≡ false
other_entry entry posting leg apart = rw (not_same leg.entry entry apart) refl

other_posting : (entry posting : ℕ) (leg : Leg) → leg.posting ≢ posting → is_of_posting entry posting leg ≡ false
other_posting entry posting leg apart = rw (not_same leg.posting posting apart) (and_false (leg.entry == entry))

-- ---- what is booked of postings that take lots away

abbrev IsSold : ℕ → Booked → Type 0
IsSold entry booked =
    booked.reduces ≡ true
    → (lots : List (LotKey × ℤ)) × AreLegsOf booked.amount.units lots
    × (booked.legs ≡ legs_at_lots entry booked.place booked.account booked.amount.commodity 0 lots)

sold_at : (ties : TieRule) (facts : Facts) (day : ℤ) (before : List Leg) (place : ℕ) (account : List ℕ) (amount : Amount) (booked : Booked)
    → IsBooked (line_under ties facts day before place account amount) booked → IsSold (suc facts.entries) booked
sold_at ties facts day before place account amount booked is sells =
    let sold = booked_sale (line_under ties facts day before place account amount) booked is sells in
    rw (is.place, is.account, is.amount) sold

module _ (ties : TieRule) (facts : Facts) (day : ℤ) where
  abbrev AreSold : ℕ → List Posting → Type 0
  AreSold place postings = (before : List Leg) (booked : List Booked) → BooksAllUnder ties facts day before place postings (All booked)
      → AllByRecursion (IsSold (suc facts.entries)) booked

  sold_followed : (before : List Leg) (place : ℕ) (account : List ℕ) (amount : Amount) (postings : List Posting)
      (booked : List Booked) (first : Booked) (others : Bookings)
      → AreSold (suc place) postings → IsBooked (line_under ties facts day before place account amount) first
      → BooksAllUnder ties facts day (before ++ first.legs) (suc place) postings others → All booked ≡ follow first others
      → AllByRecursion (IsSold (suc facts.entries)) booked
  sold_followed before place account amount postings booked first (Stopped refused) rest is books e = absurd cc
  sold_followed before place account amount postings booked first (All more) rest is books e =
      let same : booked ≡ first ∷ more = cc in
      subst (AllByRecursion (IsSold (suc facts.entries))) (sym same)
      (sold_at ties facts day before place account amount first is, rest (before ++ first.legs) more books)

  sold_on : (before : List Leg) (place : ℕ) (account : List ℕ) (amount : Amount) (postings : List Posting) (booked : List Booked)
      (booking : Booking)
      → AreSold (suc place) postings → BooksTo (line_under ties facts day before place account amount) booking
      → Continue (λ legs others. BooksAllUnder ties facts day legs (suc place) postings others) before (All booked) booking
      → AllByRecursion (IsSold (suc facts.entries)) booked
  sold_on before place account amount postings booked (Fails refused) rest books h = absurd cc
  sold_on before place account amount postings booked (Books first) rest books h =
      sold_followed before place account amount postings booked first h.0 rest books h.1 h.2

  sold_with : (before : List Leg) (place : ℕ) (account : List ℕ) (amount : Option Amount) (postings : List Posting)
      (booked : List Booked)
      → AreSold (suc place) postings
      → BooksWithUnder ties (λ legs others. BooksAllUnder ties facts day legs (suc place) postings others) facts day before place account amount (All booked)
      → AllByRecursion (IsSold (suc facts.entries)) booked
  sold_with before place account None postings booked rest books = rest before booked books
  sold_with before place account (Some amount) postings booked rest books =
      sold_on before place account amount postings booked books.0 rest books.1 books.2

  all_sold : (place : ℕ) (postings : List Posting) → AreSold place postings
  all_sold place [] before booked books =
      let none : booked ≡ [] = cc in subst (AllByRecursion (IsSold (suc facts.entries))) (sym none) tt
  all_sold place (posting ∷ postings) before booked books =
      sold_with before place posting.account posting.amount postings booked (all_sold (suc place) postings) books

-- ---- the legs of one posting, among those of all

abbrev AreFrom : ℕ → List Booked → Type 0
AreFrom place = AllByRecursion (λ (b : Booked). place ≤ b.place)

places_from : (entry place : ℕ) (postings : List Posting) (booked : List Booked) → Walks entry place postings booked → AreFrom place booked
places_from entry place [] booked walk = subst (AreFrom place) (sym walk) tt
places_from entry place (posting ∷ postings) booked walk =
    elim posting.amount as (λ amount. WalksOn (Walks entry (suc place) postings) entry place posting.account amount booked → AreFrom place booked) [
      | None ↦ λ rest. later booked (places_from entry (suc place) postings booked rest)
      | Some amount ↦ λ all.
          subst (AreFrom place) (sym all.2)
          (subst (λ n. place ≤ n) (sym all.3.place) (omega arith), later all.1 (places_from entry (suc place) postings all.1 all.4))
    ] walk
  where
    later : (bs : List Booked) → AreFrom (suc place) bs → AreFrom place bs
    later bs all = all_weaker (λ (b : Booked). suc place ≤ b.place) (λ (b : Booked). place ≤ b.place) (λ b from. omega (arith, from)) bs all

abbrev pub HasOwn : ℕ → List Leg → Booked → Type 0
HasOwn entry legs b = legs_of_posting entry b.place legs ≡ b.legs

own_first : (entry place : ℕ) (legs more : List Leg) → AllByRecursion (λ (leg : Leg). (leg.entry ≡ entry) × (leg.posting ≡ place)) legs
    → AllByRecursion (IsFrom entry (suc place)) more → legs_of_posting entry place (legs ++ more) ≡ legs
own_first entry place legs more here later =
    filter-append (is_of_posting entry place) legs more
    ∙ ap (λ ls. ls ++ legs_of_posting entry place more)
    (all_pass (is_of_posting entry place) legs
    (all_weaker (λ (leg : Leg). (leg.entry ≡ entry) × (leg.posting ≡ place)) (λ leg. is_of_posting entry place leg ≡ true) (λ leg is. is_its entry place leg is.0 is.1) legs here))
    ∙ ap (λ ls. legs ++ ls)
    (none_pass (is_of_posting entry place) more
    (all_weaker (IsFrom entry (suc place)) (λ leg. is_of_posting entry place leg ≡ false)
    (λ leg from. other_posting entry place leg (λ same. absurd (beyond place leg.posting from.1 same))) more later))
    ∙ append-nil legs
  where
    beyond : (n m : ℕ) → suc n ≤ m → m ≡ n → ⊥
    beyond n m from same = omega arith

own_later : (entry place posting : ℕ) (legs more : List Leg) → suc place ≤ posting → AllByRecursion (λ (leg : Leg). (leg.entry ≡ entry) × (leg.posting ≡ place)) legs
    → legs_of_posting entry posting (legs ++ more) ≡ legs_of_posting entry posting more
own_later entry place posting legs more later here =
    filter-append (is_of_posting entry posting) legs more
    ∙ ap (λ ls. ls ++ legs_of_posting entry posting more)
    (none_pass (is_of_posting entry posting) legs
    (all_weaker (λ (leg : Leg). (leg.entry ≡ entry) × (leg.posting ≡ place)) (λ leg. is_of_posting entry posting leg ≡ false)
    (λ leg is. other_posting entry posting leg (λ same. absurd (beyond place posting leg.posting later is.1 same))) legs here))
  where
    beyond : (n m l : ℕ) → suc n ≤ m → l ≡ n → l ≡ m → ⊥
    beyond n m l from is same = omega arith

all_own : (entry place : ℕ) (postings : List Posting) (booked : List Booked) → Walks entry place postings booked
    → AllByRecursion (HasOwn entry (legs_in booked)) booked
all_own entry place [] booked walk = subst (λ bs. AllByRecursion (HasOwn entry (legs_in bs)) bs) (sym walk) tt
all_own entry place (posting ∷ postings) booked walk =
    elim posting.amount as (λ amount. WalksOn (Walks entry (suc place) postings) entry place posting.account amount booked
    → AllByRecursion (HasOwn entry (legs_in booked)) booked) [
      | None ↦ λ rest. all_own entry (suc place) postings booked rest
      | Some amount ↦ λ all.
          let here = numbered_from entry place 0 all.0.legs all.3.numbered in
          subst (λ bs. AllByRecursion (HasOwn entry (legs_in bs)) bs) (sym all.2) (
            subst (λ n. legs_of_posting entry n (all.0.legs ++ legs_in all.1) ≡ all.0.legs) (sym all.3.place)
                (own_first entry place all.0.legs (legs_in all.1) here (legs_from entry (suc place) postings all.1 all.4)),
            all_both (λ (b : Booked). suc place ≤ b.place) (HasOwn entry (legs_in all.1)) (HasOwn entry (all.0.legs ++ legs_in all.1))
                (λ b from own. own_later entry place b.place all.0.legs (legs_in all.1) from here ∙ own) all.1
                (places_from entry (suc place) postings all.1 all.4) (all_own entry (suc place) postings all.1 all.4),
          )
    ] walk

-- ---- the fill

-- no elided posting stands at that place
abbrev IsNoneOf : List (ℕ × List ℕ) → ℕ → Type 0
IsNoneOf elided posting = AllByRecursion (λ (e : ℕ × List ℕ). e.0 ≢ posting) elided

elided_behind : (posting place : ℕ) (postings : List Posting) → suc posting ≤ place → IsNoneOf (elided_postings place postings) posting
elided_behind posting place [] behind = tt
elided_behind posting place (p ∷ postings) behind =
    let rest = elided_behind posting (suc place) postings (omega (arith, behind)) in
    elim (is_none p.amount) as (λ b. IsNoneOf (cond b ((place, p.account) ∷ elided_postings (suc place) postings) (elided_postings (suc place) postings)) posting) [
      | true ↦ (λ same. beyond place same behind, rest)
      | false ↦ rest
    ]
  where
    beyond : (n : ℕ) → n ≡ posting → suc posting ≤ n → ⊥
    beyond n same behind = omega arith

-- the elided posting is none of those that are booked
elided_others : (entry place : ℕ) (postings : List Posting) (booked : List Booked) → Walks entry place postings booked
    → AllByRecursion (λ (b : Booked). IsNoneOf (elided_postings place postings) b.place) booked
elided_others entry place [] booked walk =
    subst (AllByRecursion (λ (b : Booked). IsNoneOf [] b.place)) (sym walk) tt
elided_others entry place (posting ∷ postings) booked walk =
    elim posting.amount as (λ amount. WalksOn (Walks entry (suc place) postings) entry place posting.account amount booked
    → AllByRecursion (λ (b : Booked). IsNoneOf (cond (is_none amount) ((place, posting.account) ∷ elided_postings (suc place) postings)
    (elided_postings (suc place) postings)) b.place) booked) [
      | None ↦ λ rest.
          all_both (λ (b : Booked). suc place ≤ b.place) (λ (b : Booked). IsNoneOf (elided_postings (suc place) postings) b.place)
          (λ (b : Booked). IsNoneOf ((place, posting.account) ∷ elided_postings (suc place) postings) b.place)
          (λ b from others. (λ same. before b.place same from, others)) booked
          (places_from entry (suc place) postings booked rest) (elided_others entry (suc place) postings booked rest)
      | Some amount ↦ λ all.
          subst (AllByRecursion (λ (b : Booked). IsNoneOf (elided_postings (suc place) postings) b.place)) (sym all.2) (
            subst (IsNoneOf (elided_postings (suc place) postings)) (sym all.3.place)
                (elided_behind place (suc place) postings (omega arith)),
            elided_others entry (suc place) postings all.1 all.4,
          )
    ] walk
  where
    before : (n : ℕ) → place ≡ n → suc place ≤ n → ⊥
    before n same from = omega arith

fill_other : (entry posting : ℕ) (elided : List (ℕ × List ℕ)) (rs : List (List ℕ × ℤ)) → AllByRecursion (λ (e : ℕ × List ℕ). e.0 ≢ posting) elided
    → legs_of_posting entry posting (fill_of entry elided rs) ≡ []
fill_other entry posting [] rs apart = refl
fill_other entry posting (e ∷ more) rs apart =
    none_pass (is_of_posting entry posting) (fill_from entry e.0 e.1 0 (left_over rs)) (other 0 (left_over rs))
  where
    other : (place : ℕ) (ls : List (List ℕ × ℤ)) → AllByRecursion (λ leg. is_of_posting entry posting leg ≡ false) (fill_from entry e.0 e.1 place ls)
    other place [] = tt
    other place (l ∷ ls) = (other_posting entry posting (leg_at entry e.0 place e.1 l.0 None l.1) apart.0, other (suc place) ls)

-- ---- the sales of an accepted transaction

abbrev HasLegsOf : ℕ → List Leg → ℕ × SaleParts → Type 0
HasLegsOf entry legs sale = HasItsLegs legs (entry, sale)

module _ (ties : TieRule) (facts : Facts) (t : TransactionOf) (legs : List Leg) (is : IsBookedAs ties facts t legs) where
  abbrev number : ℕ
  number = suc facts.entries

  walk : Walks number 1 t.postings is.booked
  walk = walks ties facts t.day 1 t.postings [] is.booked is.all

  abbrev elided : List (ℕ × List ℕ)
  elided = elided_postings 1 t.postings

  -- of all legs those of a booked posting are its own
  pub own_in_all : AllByRecursion (HasOwn number legs) is.booked
  own_in_all =
      let fill = fill_of number elided (residuals (weights_in is.booked)) in
      all_both (HasOwn number (legs_in is.booked)) (λ (b : Booked). IsNoneOf elided b.place) (HasOwn number legs)
      (λ b own others.
      ap (legs_of_posting number b.place) is.same
      ∙ filter-append (is_of_posting number b.place) (legs_in is.booked) fill
      ∙ ap (λ ls. legs_of_posting number b.place (legs_in is.booked) ++ ls) (fill_other number b.place elided (residuals (weights_in is.booked)) others)
      ∙ append-nil (legs_of_posting number b.place (legs_in is.booked))
      ∙ own) is.booked (all_own number 1 t.postings is.booked walk) (elided_others number 1 t.postings is.booked walk)

  one_own : (b : Booked) → IsSold number b → HasOwn number legs b → b.reduces ≡ true
      → HasLegsOf number legs (b.place, record { day = t.day; account = b.account; commodity = b.amount.commodity; units = b.amount.units; price = b.amount.price; legs = lots_in_legs b.legs })
  one_own b sold own sells =
      let s = sold sells in
      let same : lots_in_legs b.legs ≡ s.0 = ap lots_in_legs s.2 ∙ lots_in_legs-lots number b.place b.account b.amount.commodity 0 s.0 in (
        subst (AreLegsOf b.amount.units) (sym same) s.1,
        own ∙ s.2 ∙ ap (legs_at_lots number b.place b.account b.amount.commodity 0) (sym same),
      )

  own_sales : (booked : List Booked) → AllByRecursion (IsSold number) booked → AllByRecursion (HasOwn number legs) booked
      → AllByRecursion (HasLegsOf number legs) (sales_in t.day booked)
  own_sales [] sold own = tt
  own_sales (b ∷ booked) sold own =
      all-append (HasLegsOf number legs) (sales_of t.day b) (sales_in t.day booked) (by b.reduces refl) (own_sales booked sold.1 own.1)
    where
      by : (r : Bool) → b.reduces ≡ r
          → AllByRecursion (HasLegsOf number legs) (cond r ((b.place, record { day = t.day; account = b.account; commodity = b.amount.commodity; units = b.amount.units; price = b.amount.price; legs = lots_in_legs b.legs }) ∷ []) [])
      by true sells = (one_own b sold.0 own.0 sells, tt)
      by false keeps = tt

  transaction_sales : AllByRecursion (HasLegsOf number legs) (sales_in t.day is.booked)
  transaction_sales = own_sales is.booked (all_sold ties facts t.day 1 t.postings [] is.booked is.all) own_in_all

entry_sales : (ties : TieRule) (facts : Facts) (command : Command) (legs : List Leg) (sales : List (ℕ × SaleParts)) → JudgesUnder ties facts command (Accept legs) → AreSalesUnder ties facts command sales
    → AllByRecursion (HasLegsOf (suc facts.entries) legs) sales
entry_sales ties facts (Opening o) legs sales judges are = subst (AllByRecursion (HasLegsOf (suc facts.entries) legs)) (sym are) tt
entry_sales ties facts (Closing c) legs sales judges are = subst (AllByRecursion (HasLegsOf (suc facts.entries) legs)) (sym are) tt
entry_sales ties facts (Declaring d) legs sales judges are = subst (AllByRecursion (HasLegsOf (suc facts.entries) legs)) (sym are) tt
entry_sales ties facts (Quoting q) legs sales judges are = subst (AllByRecursion (HasLegsOf (suc facts.entries) legs)) (sym are) tt
entry_sales ties facts (Transaction t) legs sales judges are =
    let is = booked_as ties facts t (first_of (first_conditions facts t)) legs judges in
    let one = all_booked are.0 is.booked (books_one ties facts t.day [] 1 t.postings (All are.0) (All is.booked) are.1 is.all) in
    subst (AllByRecursion (HasLegsOf (suc facts.entries) legs)) (sym (are.2 ∙ ap (sales_in t.day) one)) (transaction_sales ties facts t legs is)

-- ---- the sales of a book

later_legs : (migration : Migration) (before entries : List Entry) → ContinuesIn migration before entries → AllByRecursion (λ (leg : Leg). suc (length before) ≤ leg.entry) (legs_of entries)
later_legs migration before [] continues = tt
later_legs migration before (entry ∷ entries) continues =
    all-append (λ (leg : Leg). suc (length before) ≤ leg.entry) entry.legs (legs_of entries)
    (all_weaker (λ (leg : Leg). leg.entry ≡ suc (length before)) (λ (leg : Leg). suc (length before) ≤ leg.entry) (λ leg is. subst (λ n. suc (length before) ≤ n) (sym is) (omega arith)) entry.legs
    (own_legs (ties_in (edition_on migration before) before) (facts_of before entry.key) entry.command entry.legs (accepted (edition_on migration before) before entry.key entry.command entry.legs continues.0).1).0)
    (all_weaker (λ (leg : Leg). suc (length (before ++ entry ∷ [])) ≤ leg.entry) (λ (leg : Leg). suc (length before) ≤ leg.entry)
    (λ leg from. down leg.entry (subst (λ n. suc n ≤ leg.entry) (one_longer before entry) from)) (legs_of entries) (later_legs migration (before ++ entry ∷ []) entries continues.1))
  where
    down : (n : ℕ) → suc (suc (length before)) ≤ n → suc (length before) ≤ n
    down n from = omega (arith, from)

-- of the legs of all entries those of a posting are its entry's
only_own : (migration : Migration) (before entries : List Entry) (entry : Entry) (posting : ℕ) → AreOfEntries before → ContinuesIn migration (before ++ entry ∷ []) entries
    → legs_of_posting (suc (length before)) posting (legs_of (before ++ entry ∷ entries)) ≡ legs_of_posting (suc (length before)) posting entry.legs
only_own migration before entries entry posting earlier continues =
    let number = suc (length before) in
    let test = is_of_posting number posting in
    ap (filter test) (flat_map-append (λ (e : Entry). e.legs) before (entry ∷ entries))
    ∙ filter-append test (legs_of before) (entry.legs ++ legs_of entries)
    ∙ ap (λ ls. ls ++ filter test (entry.legs ++ legs_of entries))
    (none_pass test (legs_of before)
    (all_weaker (λ (leg : Leg). leg.entry ≤ length before) (λ leg. test leg ≡ false) (λ leg below. other_entry number posting leg (λ same. absurd (above leg.entry below same))) (legs_of before) earlier))
    ∙ filter-append test entry.legs (legs_of entries)
    ∙ ap (λ ls. filter test entry.legs ++ ls)
    (none_pass test (legs_of entries)
    (all_weaker (λ (leg : Leg). suc (length (before ++ entry ∷ [])) ≤ leg.entry) (λ leg. test leg ≡ false)
    (λ leg from. other_entry number posting leg (λ same. absurd (beyond leg.entry (subst (λ n. suc n ≤ leg.entry) (one_longer before entry) from) same))) (legs_of entries) (later_legs migration (before ++ entry ∷ []) entries continues)))
    ∙ append-nil (filter test entry.legs)
  where
    above : (n : ℕ) → n ≤ length before → n ≡ suc (length before) → ⊥
    above n below same = omega (arith, below, same)

    beyond : (n : ℕ) → suc (suc (length before)) ≤ n → n ≡ suc (length before) → ⊥
    beyond n from same = omega (arith, from, same)

own_sale_legs : (migration : Migration) (before entries : List Entry) (entry : Entry) (sales : List (ℕ × (ℕ × SaleParts))) → AreOfEntries before
    → ContinuesIn migration before (entry ∷ entries) → AreSalesOfEntry migration before entry sales
    → AllByRecursion (HasItsLegs (legs_of (before ++ entry ∷ entries))) sales
own_sale_legs migration before entries entry sales earlier continues of =
    let number = suc (length before) in
    let whole = legs_of (before ++ entry ∷ entries) in
    let judges = (accepted (edition_on migration before) before entry.key entry.command entry.legs continues.0).1 in
    subst (AllByRecursion (HasItsLegs whole)) (sym of.2)
    (all_map (HasItsLegs whole) (λ (sale : ℕ × SaleParts). (number, sale)) of.0
    (all_weaker (HasLegsOf number entry.legs) (λ (sale : ℕ × SaleParts). HasItsLegs whole (number, sale))
    (λ sale has. (has.0, only_own migration before entries entry sale.0 earlier continues.1 ∙ has.1)) of.0
    (entry_sales (ties_in (edition_on migration before) before) (facts_of before entry.key) entry.command entry.legs of.0 judges of.1)))

collected_legs : (migration : Migration) (before entries : List Entry) (sales : List (ℕ × (ℕ × SaleParts))) → Collects (AreSalesOfEntry migration) before entries sales
    → AreOfEntries before → ContinuesIn migration before entries → AllByRecursion (HasItsLegs (legs_of (before ++ entries))) sales
collected_legs migration = over_collected (AreSalesOfEntry migration)
    (λ before entries sales. AreOfEntries before → ContinuesIn migration before entries → AllByRecursion (HasItsLegs (legs_of (before ++ entries))) sales)
    (λ before earlier continues. tt)
    (λ before entry entries first more of rest earlier continues.
    let judges = (accepted (edition_on migration before) before entry.key entry.command entry.legs continues.0).1 in
    all-append (HasItsLegs (legs_of (before ++ entry ∷ entries))) first more (own_sale_legs migration before entries entry first earlier continues of)
    (subst (λ (book : List Entry). AllByRecursion (HasItsLegs (legs_of book)) more) (append_assoc before (entry ∷ []) entries)
    (rest (numbered_next (ties_in (edition_on migration before) before) before entry earlier judges) continues.1)))

pub sale_legs : (migration : Migration) (entries : List Entry) (sales : List (ℕ × (ℕ × SaleParts))) → IsBookIn migration entries → SalesOf migration entries sales → AllByRecursion (HasItsLegs (legs_of entries)) sales
sale_legs migration entries sales book of = collected_legs migration [] entries sales of tt book

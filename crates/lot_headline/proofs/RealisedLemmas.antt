-- What each sale of a book realised.
use Rattle.std.specs.Prelude.{◌≡◌, ℕ, suc, ◌+◌, ◌<◌, Bool, true, false, cond, List, [], ◌∷◌, ◌++◌, length, Option, None, Some, ℤ}
use Rattle.std.specs.FinMap as finite
use Rattle.std.specs.List.{AllByRecursion}
use Rattle.std.proofs.Common.{refl, sym, ap, subst, ◌∙◌, arith, append_assoc, append-nil}
use Rattle.std.proofs.lemmas.Bool.{true≢false}
use Rattle.lot_cost.proofs.ListLemmas.{all_weaker}
use Rattle.sqlite_keyed.proofs.ListLemmas.{all-append, all_map}
use Rattle.lot_cost.specs.declared.cost.Cost.{Cost}
use Rattle.lot_cost.specs.declared.lot_key.LotKey.{LotKey}
use Rattle.lot_command.specs.declared.command.Command.{Command}
use Rattle.lot_command.specs.declared.command.Command.TheVariants.{Opening, Closing, Declaring, Quoting, Transaction}
use Rattle.lot_command.specs.declared.price.Price.{Price}
use Rattle.lot_command.specs.declared.price.Price.TheVariants.{Each, Whole}
use Rattle.lot_command.specs.declared.transaction.Amount.{Amount}
use Rattle.lot_command.specs.declared.transaction.Posting.{Posting}
use Rattle.lot_command.specs.declared.transaction.Transaction.{Transaction as TransactionOf}
use Rattle.lot_booking.specs.Booking.{Braced, ComesTo, Legs, posting_by}
use Rattle.lot_book.proofs.LegLemmas.{with_legs-append}
use Rattle.lot_book.proofs.SaleLemmas.{lots_in_legs-lots}
use Rattle.lot_book.specs.Book.{ContinuesIn, IsBookIn}
use Rattle.lot_book.specs.Booking.{All, Booked, Booking, Bookings, Books, BooksAllUnder, BooksTo, BooksWithUnder, Continue, Fails, HasLegs, IsBooked, Line, Stopped, TieRule, braced, follow, legs_in, line_under, method_of}
use Rattle.lot_book.specs.Edition.{Migration, edition_on, ties_in}
use Rattle.lot_book.specs.Facts.{Entry, Facts, facts_of, legs_of, standing_of}
use Rattle.lot_book.specs.Gain.{gain_at, gain_of}
use Rattle.lot_book.specs.Leg.{inventory_of, legs_at_lots, with_legs}
use Rattle.lot_book.specs.Sale.{AreLegsOf, AreSalesUnder, SaleParts, lots_in_legs, sales_in, sales_of}
use Rattle.lot_book.specs.Step.{Accept, JudgesUnder, first_conditions, first_of}
use Rattle.lot_book.specs.declared.gain.Gain.{Gain}
use Rattle.lot_book.specs.declared.leg.Leg.{Leg}
use Rattle.lot_laws.specs.Collects.{Collects}
use Rattle.lot_laws.proofs.CollectLemmas.{over_collected}
use Rattle.lot_laws.proofs.GainLaws.{a_gain_is_proceeds_less_cost, a_reduction_makes_a_sale, priced_sales_have_a_gain, proceeds_are_of_all_units, the_gain}
use Rattle.lot_laws.proofs.LawBooks.{accepted}
use Rattle.lot_laws.proofs.StepLemmas.{books_one}
use Rattle.lot_stored.proofs.BookedLemmas.{booked_as}
use Rattle.lot_stored.proofs.SalesLemmas.{all_booked}
use Rattle.lot_stored.specs.Kept.{AreSalesOfEntry, SalesOf}
use Rattle.lot_headline.specs.Realised.{IsGainOf, IsRealised, IsWritten, Sold, posting_there}

-- ---- the legs of one posting

-- each is numbered by the place of its posting
lots_there : (entry place : ℕ) (account commodity : List ℕ) (next : ℕ) (lots : List (LotKey × ℤ))
    → AllByRecursion (λ (leg : Leg). leg.posting ≡ place) (legs_at_lots entry place account commodity next lots)
lots_there entry place account commodity next [] = tt
lots_there entry place account commodity next (lot ∷ lots) = (refl, lots_there entry place account commodity (suc next) lots)

legs_there : (line : Line) (cost : Option Cost) (reduces : Bool) (legs : List Leg) → HasLegs line cost reduces legs
    → AllByRecursion (λ (leg : Leg). leg.posting ≡ line.place) legs
legs_there line None reduces legs has = subst (AllByRecursion (λ (leg : Leg). leg.posting ≡ line.place)) (sym has.1) (refl, tt)
legs_there line (Some cost) reduces legs has =
    subst (AllByRecursion (λ (leg : Leg). leg.posting ≡ line.place)) (sym has.2)
    (lots_there line.entry line.place line.account line.amount.commodity 0 has.0)

-- ---- a booked posting among those of a transaction

module _ (ties : TieRule) (facts : Facts) (day : ℤ) where
  -- it stands among postings of which the first has that place, and is booked behind these legs and those of the postings in
  -- front of it
  record IsAmong (before : List Leg) (place : ℕ) (postings : List Posting) (booked : List Booked) (b : Booked) : Type 0 where
    pub earlier : List Posting
    pub posting : Posting
    pub later : List Posting
    pub among : postings ≡ earlier ++ posting ∷ later
    pub at : ℕ
    pub at_is : at ≡ place + length earlier
    pub amount : Amount
    pub has_amount : posting.amount ≡ Some amount
    pub so_far : List Leg
    pub more : List Leg
    pub legs : legs_in booked ≡ so_far ++ (b.legs ++ more)
    pub front : List Leg
    pub front_is : front ≡ before ++ so_far
    pub is : IsBooked (line_under ties facts day front at posting.account amount) b
    pub below : AllByRecursion (λ (leg : Leg). leg.posting < at) so_far

  abbrev AllAmong : ℕ → List Posting → Type 0
  AllAmong place postings = (before : List Leg) (booked : List Booked) → BooksAllUnder ties facts day before place postings (All booked)
      → AllByRecursion (IsAmong before place postings booked) booked

  -- behind an elided posting
  one_earlier : (before : List Leg) (place : ℕ) (posting : Posting) (postings : List Posting) (booked : List Booked) (b : Booked)
      → IsAmong before (suc place) postings booked b → IsAmong before place (posting ∷ postings) booked b
  one_earlier before place posting postings booked b it = record {
    earlier = posting ∷ it.earlier;
    posting = it.posting;
    later = it.later;
    among = ap (λ (ps : List Posting). posting ∷ ps) it.among;
    at = it.at;
    at_is = omega (arith, it.at_is);
    amount = it.amount;
    has_amount = it.has_amount;
    so_far = it.so_far;
    more = it.more;
    legs = it.legs;
    front = it.front;
    front_is = it.front_is;
    is = it.is;
    below = it.below;
  }

  -- behind one that is booked
  one_booked : (before : List Leg) (place : ℕ) (posting : Posting) (postings : List Posting) (amount : Amount) (first : Booked)
      (more : List Booked) → IsBooked (line_under ties facts day before place posting.account amount) first
      → (b : Booked) → IsAmong (before ++ first.legs) (suc place) postings more b → IsAmong before place (posting ∷ postings) (first ∷ more) b
  one_booked before place posting postings amount first more is b it = record {
    earlier = posting ∷ it.earlier;
    posting = it.posting;
    later = it.later;
    among = ap (λ (ps : List Posting). posting ∷ ps) it.among;
    at = it.at;
    at_is = omega (arith, it.at_is);
    amount = it.amount;
    has_amount = it.has_amount;
    so_far = first.legs ++ it.so_far;
    more = it.more;
    legs = ap (λ (ls : List Leg). first.legs ++ ls) it.legs ∙ sym (append_assoc first.legs it.so_far (b.legs ++ it.more));
    front = it.front;
    front_is = it.front_is ∙ append_assoc before first.legs it.so_far;
    is = it.is;
    below = all-append (λ (leg : Leg). leg.posting < it.at) first.legs it.so_far
        (all_weaker (λ (leg : Leg). leg.posting ≡ place) (λ (leg : Leg). leg.posting < it.at) (λ leg here. omega (arith, here, it.at_is))
        first.legs (legs_there (line_under ties facts day before place posting.account amount) amount.cost first.reduces first.legs is.legs))
        it.below;
  }

  first_among : (before : List Leg) (place : ℕ) (posting : Posting) (postings : List Posting) (amount : Amount) (first : Booked)
      (more : List Booked) → posting.amount ≡ Some amount → IsBooked (line_under ties facts day before place posting.account amount) first
      → IsAmong before place (posting ∷ postings) (first ∷ more) first
  first_among before place posting postings amount first more has is = record {
    earlier = [];
    posting = posting;
    later = postings;
    among = refl;
    at = place;
    at_is = omega arith;
    amount = amount;
    has_amount = has;
    so_far = [];
    more = legs_in more;
    legs = refl;
    front = before;
    front_is = sym (append-nil before);
    is = is;
    below = tt;
  }

  among_followed : (before : List Leg) (place : ℕ) (posting : Posting) (postings : List Posting) (amount : Amount)
      (booked : List Booked) (first : Booked) (others : Bookings) → posting.amount ≡ Some amount
      → AllAmong (suc place) postings → IsBooked (line_under ties facts day before place posting.account amount) first
      → BooksAllUnder ties facts day (before ++ first.legs) (suc place) postings others → All booked ≡ follow first others
      → AllByRecursion (IsAmong before place (posting ∷ postings) booked) booked
  among_followed before place posting postings amount booked first (Stopped refused) has rest is books e = absurd cc
  among_followed before place posting postings amount booked first (All more) has rest is books e =
      let same : booked ≡ first ∷ more = cc in
      subst (λ (bs : List Booked). AllByRecursion (IsAmong before place (posting ∷ postings) bs) bs) (sym same) (
        first_among before place posting postings amount first more has is,
        all_weaker (IsAmong (before ++ first.legs) (suc place) postings more) (IsAmong before place (posting ∷ postings) (first ∷ more))
            (one_booked before place posting postings amount first more is) more (rest (before ++ first.legs) more books),
      )

  among_on : (before : List Leg) (place : ℕ) (posting : Posting) (postings : List Posting) (amount : Amount)
      (booked : List Booked) (booking : Booking) → posting.amount ≡ Some amount
      → AllAmong (suc place) postings → BooksTo (line_under ties facts day before place posting.account amount) booking
      → Continue (λ legs others. BooksAllUnder ties facts day legs (suc place) postings others) before (All booked) booking
      → AllByRecursion (IsAmong before place (posting ∷ postings) booked) booked
  among_on before place posting postings amount booked (Fails refused) has rest books h = absurd cc
  among_on before place posting postings amount booked (Books first) has rest books h =
      among_followed before place posting postings amount booked first h.0 has rest books h.1 h.2

  among_with : (before : List Leg) (place : ℕ) (posting : Posting) (postings : List Posting) (amount : Option Amount)
      (booked : List Booked) → posting.amount ≡ amount → AllAmong (suc place) postings
      → BooksWithUnder ties (λ legs others. BooksAllUnder ties facts day legs (suc place) postings others) facts day before place posting.account amount (All booked)
      → AllByRecursion (IsAmong before place (posting ∷ postings) booked) booked
  among_with before place posting postings None booked has rest books =
      all_weaker (IsAmong before (suc place) postings booked) (IsAmong before place (posting ∷ postings) booked)
      (one_earlier before place posting postings booked) booked (rest before booked books)
  among_with before place posting postings (Some amount) booked has rest books =
      among_on before place posting postings amount booked books.0 has rest books.1 books.2

  all_among : (place : ℕ) (postings : List Posting) → AllAmong place postings
  all_among place [] before booked books =
      let none : booked ≡ [] = cc in subst (λ (bs : List Booked). AllByRecursion (IsAmong before place [] bs) bs) (sym none) tt
  all_among place (posting ∷ postings) before booked books =
      among_with before place posting postings posting.amount booked refl (all_among (suc place) postings) books

-- ---- gains

gain_at_price : (sale : SaleParts) (price : Option Price) (gain : Gain) → AreLegsOf sale.units sale.legs → sale.price ≡ price
    → gain_of sale ≡ Some gain → gain_at price sale ≡ Some gain → IsGainOf sale gain
gain_at_price sale None gain legs priced is at = absurd cc
gain_at_price sale (Some (Each price)) gain legs priced is at = record {
  price = Each price;
  priced = priced;
  proceeds = proceeds_are_of_all_units sale price gain legs priced is;
  cost = sym (ap (λ (g : Gain). g.cost) (the_gain (Each price) sale gain at));
  difference = a_gain_is_proceeds_less_cost sale gain is;
}
gain_at_price sale (Some (Whole price)) gain legs priced is at = record {
  price = Whole price;
  priced = priced;
  proceeds = sym (ap (λ (g : Gain). g.proceeds) (the_gain (Whole price) sale gain at));
  cost = sym (ap (λ (g : Gain). g.cost) (the_gain (Whole price) sale gain at));
  difference = a_gain_is_proceeds_less_cost sale gain is;
}

is_gain : (sale : SaleParts) → AreLegsOf sale.units sale.legs → (gain : Gain) → gain_of sale ≡ Some gain → IsGainOf sale gain
is_gain sale legs gain is = gain_at_price sale sale.price gain legs refl is is

-- ---- the sales of an entry

module _ (migration : Migration) (before behind : List Entry) (entry : Entry) where
  abbrev book : List Entry
  book = before ++ entry ∷ behind

  abbrev number : ℕ
  number = suc (length before)

  abbrev rule : TieRule
  rule = ties_in (edition_on migration before) before

  abbrev known : Facts
  known = facts_of before entry.key

  module _ (t : TransactionOf) (command : entry.command ≡ Transaction t) (booked : List Booked) (fill : List Leg)
      (all : entry.legs ≡ legs_in booked ++ fill) where
    module _ (b : Booked) (it : IsAmong rule known t.day [] 1 t.postings booked b) where
      abbrev line : Line
      line = line_under rule known t.day it.front it.at it.posting.account it.amount

      abbrev sale_with : List (LotKey × ℤ) → Sold
      sale_with lots = (
        number,
        (
          it.at,
          record {
            day = t.day;
            account = it.posting.account;
            commodity = it.amount.commodity;
            units = it.amount.units;
            price = it.amount.price;
            legs = lots;
          },
        ),
      )

      module _ (cost : Cost) (braces : it.amount.cost ≡ Some cost) (lots : List (LotKey × ℤ))
          (comes : ComesTo (braced line cost) (Legs true lots))
          (own : b.legs ≡ legs_at_lots number it.at it.posting.account it.amount.commodity 0 lots) where
        abbrev written : IsWritten book (sale_with lots)
        written = record {
          before = before;
          entry = entry;
          behind = behind;
          stands = refl;
          number = refl;
          transaction = t;
          command = command;
          earlier = it.earlier;
          posting = it.posting;
          later = it.later;
          among = it.among;
          place = omega (arith, it.at_is);
          amount = it.amount;
          has_amount = it.has_amount;
          cost = cost;
          has_braces = braces;
          day = refl;
          account = refl;
          commodity = refl;
          units = refl;
          price = refl;
        }

        abbrev own_legs : List Leg
        own_legs = legs_at_lots number it.at it.posting.account it.amount.commodity 0 lots

        legs_are : entry.legs ≡ it.so_far ++ (own_legs ++ (it.more ++ fill))
        legs_are =
            all
            ∙ ap (λ (ls : List Leg). ls ++ fill) (it.legs ∙ ap (λ (ls : List Leg). it.so_far ++ (ls ++ it.more)) own)
            ∙ append_assoc it.so_far (own_legs ++ it.more) fill
            ∙ ap (λ (ls : List Leg). it.so_far ++ ls) (append_assoc own_legs it.more fill)

        there : braced line cost ≡ posting_there migration before it.so_far it.posting.account it.amount cost t.day
        there =
            let account = it.posting.account in
            let held : line.held ≡ inventory_of (legs_of before ++ it.so_far) account =
            ap (λ (ls : List Leg). with_legs account (known.held account) ls) it.front_is
            ∙ sym (with_legs-append account finite.empty (legs_of before) it.so_far) in
            λ i. posting_by (rule (it.front_is i) account it.amount.commodity) (method_of (standing_of before account)) (held i)
            it.amount.commodity it.amount.units cost t.day

        realised_with : IsRealised migration book (sale_with lots)
        realised_with =
            let sum = a_reduction_makes_a_sale (braced line cost) lots comes in record {
              written = written;
              lots = record {
                so_far = it.so_far;
                more = it.more ++ fill;
                legs = legs_are;
                earlier = it.below;
                chosen = subst (λ (p : Braced). ComesTo p (Legs true lots)) there comes;
                sum = sum;
              };
              has_gain = priced_sales_have_a_gain (sale_with lots).1.1;
              gain = is_gain (sale_with lots).1.1 sum;
            }

      abbrev sale_of : Sold
      sale_of = (
        number,
        (
          b.place,
          record {
            day = t.day;
            account = b.account;
            commodity = b.amount.commodity;
            units = b.amount.units;
            price = b.amount.price;
            legs = lots_in_legs b.legs;
          },
        ),
      )

      realised_by : (cost : Option Cost) → it.amount.cost ≡ cost → HasLegs line cost true b.legs → IsRealised migration book sale_of
      realised_by None braces has = absurd (true≢false has.0)
      realised_by (Some cost) braces has =
          let lots = has.0 in
          let legs : lots_in_legs b.legs ≡ lots =
          ap lots_in_legs has.2 ∙ lots_in_legs-lots number it.at it.posting.account it.amount.commodity 0 lots in
          let same : sale_of ≡ sale_with lots = λ i. (
            number,
            (
              it.is.place i,
              record {
                day = t.day;
                account = it.is.account i;
                commodity = (it.is.amount i).commodity;
                units = (it.is.amount i).units;
                price = (it.is.amount i).price;
                legs = legs i;
              },
            ),
          ) in
          subst (IsRealised migration book) (sym same) (realised_with cost braces lots has.1 has.2)

      one_realised : b.reduces ≡ true → IsRealised migration book sale_of
      one_realised sells =
          realised_by it.amount.cost refl (subst (λ (r : Bool). HasLegs line it.amount.cost r b.legs) sells it.is.legs)

    realised_in : (bs : List Booked) → AllByRecursion (IsAmong rule known t.day [] 1 t.postings booked) bs
        → AllByRecursion (λ (sale : ℕ × SaleParts). IsRealised migration book (number, sale)) (sales_in t.day bs)
    realised_in [] among = tt
    realised_in (b ∷ bs) among =
        all-append (λ (sale : ℕ × SaleParts). IsRealised migration book (number, sale)) (sales_of t.day b) (sales_in t.day bs)
        (by b.reduces refl) (realised_in bs among.1)
      where
        by : (r : Bool) → b.reduces ≡ r
            → AllByRecursion (λ (sale : ℕ × SaleParts). IsRealised migration book (number, sale)) (cond r ((sale_of b among.0).1 ∷ []) [])
        by true sells = (one_realised b among.0 sells, tt)
        by false keeps = tt

  entry_realised : (command : Command) → entry.command ≡ command → JudgesUnder rule known command (Accept entry.legs)
      → (own : List (ℕ × SaleParts)) → AreSalesUnder rule known command own
      → AllByRecursion (λ (sale : ℕ × SaleParts). IsRealised migration book (number, sale)) own
  entry_realised (Opening o) is judges own are = subst (AllByRecursion (λ (sale : ℕ × SaleParts). IsRealised migration book (number, sale))) (sym are) tt
  entry_realised (Closing c) is judges own are = subst (AllByRecursion (λ (sale : ℕ × SaleParts). IsRealised migration book (number, sale))) (sym are) tt
  entry_realised (Declaring d) is judges own are = subst (AllByRecursion (λ (sale : ℕ × SaleParts). IsRealised migration book (number, sale))) (sym are) tt
  entry_realised (Quoting q) is judges own are = subst (AllByRecursion (λ (sale : ℕ × SaleParts). IsRealised migration book (number, sale))) (sym are) tt
  entry_realised (Transaction t) is judges own are =
      let it = booked_as rule known t (first_of (first_conditions known t)) entry.legs judges in
      let one = all_booked are.0 it.booked (books_one rule known t.day [] 1 t.postings (All are.0) (All it.booked) are.1 it.all) in
      subst (AllByRecursion (λ (sale : ℕ × SaleParts). IsRealised migration book (number, sale))) (sym (are.2 ∙ ap (sales_in t.day) one))
      (realised_in t is it.booked _ it.same it.booked (all_among rule known t.day 1 t.postings [] it.booked it.all))

-- ---- the sales of a book

module _ (migration : Migration) where
  abbrev Realise : List Entry → List Entry → List Sold → Type 0
  Realise before entries sales = ContinuesIn migration before entries → AllByRecursion (IsRealised migration (before ++ entries)) sales

  own_realised : (before entries : List Entry) (entry : Entry) (first : List Sold) → ContinuesIn migration before (entry ∷ entries)
      → AreSalesOfEntry migration before entry first → AllByRecursion (IsRealised migration (before ++ entry ∷ entries)) first
  own_realised before entries entry first continues of =
      let judges = (accepted (edition_on migration before) before entry.key entry.command entry.legs continues.0).1 in
      subst (AllByRecursion (IsRealised migration (before ++ entry ∷ entries))) (sym of.2)
      (all_map (IsRealised migration (before ++ entry ∷ entries)) (λ (sale : ℕ × SaleParts). (suc (length before), sale)) of.0
      (entry_realised migration before entries entry entry.command refl judges of.0 of.1))

  collected : (before entries : List Entry) (sales : List Sold) → Collects (AreSalesOfEntry migration) before entries sales
      → Realise before entries sales
  collected = over_collected (AreSalesOfEntry migration) Realise
      (λ before continues. tt)
      (λ before entry entries first more of rest continues.
      all-append (IsRealised migration (before ++ entry ∷ entries)) first more (own_realised before entries entry first continues of)
      (subst (λ (book : List Entry). AllByRecursion (IsRealised migration book) more) (append_assoc before (entry ∷ []) entries)
      (rest continues.1)))

pub all_realised : (migration : Migration) (entries : List Entry) (sales : List Sold) → IsBookIn migration entries
    → SalesOf migration entries sales → AllByRecursion (IsRealised migration entries) sales
all_realised migration entries sales is of = collected migration [] entries sales of is

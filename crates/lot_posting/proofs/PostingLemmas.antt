-- The legs of one posting: whose they are, how much they move, and what a draft has once they are added.
use Rattle.std.proofs.Common.{◌≡◌, ◌≢◌, ◌≤◌, ◌+◌, ℕ, suc, Bool, true, false, cond, nat_eq, inl, inr, arith, List, [], ◌∷◌, ◌++◌, Option, Some, None, refl, sym, ap, subst, ◌∙◌, ℤ, pos, ◌+ℤ◌, unsigned_abs}
use Rattle.std.specs.List.{list_all}
use Rattle.std.specs.Prelude.{◌&&◌}
use Rattle.std.proofs.lemmas.Bool.{cases_Bool, eqb-false, eqb-true}
use Rattle.std.proofs.lemmas.Int.{ints}
use Rattle.std.proofs.lemmas.List.{append-nil}
use Rattle.std.proofs.lemmas.List.Sorted.{sum_by-IsPermutation}
use Rattle.std.proofs.lemmas.List.Sums.{sum_by-cons}
use Rattle.lot_cost.specs.declared.lot_key.LotKey.{LotKey}
use Rattle.lot_cost.specs.declared.cost.Cost.{Cost}
use Rattle.lot_inv.specs.Inventory.{held_in}
use Rattle.lot_booking.specs.Booking.{Braced, ComesTo, Legs, candidates}
use Rattle.lot_booking.specs.Choice.{Choice, chosen_legs, given, with_sign_of}
use Rattle.lot_booking.proofs.BookingLaws.{size_of-sign, units_of_legs}
use Rattle.lot_command.specs.declared.transaction.Amount.{Amount}
use Rattle.lot_posting.specs.declared.draft.Draft.{Draft}
use Rattle.lot_posting.specs.declared.tally.Tally.{Tally}
use Rattle.lot_book.specs.declared.leg.Leg.{Leg}
use Rattle.lot_book.specs.declared.refusal.Refusal.TheVariants.{Range}
use Rattle.lot_book.specs.declared.refusal.Stop.{Stop}
use Rattle.lot_book.specs.declared.refusal.Stop.TheVariants.{Refused, Memory}
use Rattle.lot_book.specs.Balance.{AreWithin, residuals, weights_by}
use Rattle.lot_book.specs.Booking.{Booked, HasLegs, Line, TieRule, braced, line_under, plain_leg}
use Rattle.lot_book.specs.Change.{units_after}
use Rattle.lot_book.specs.Facts.{Facts}
use Rattle.lot_book.specs.Leg.{leave_range, leg_at, legs_at_lots, units_moved, with_legs}
use Rattle.lot_book.specs.OpeningNumber.{HasNumber}
use Rattle.lot_book.specs.Sale.{lots_in_legs, sales_of, AreLegsOf, SaleParts, same_sign}
use Rattle.lot_book.proofs.LegLemmas.{leave_range-stops}
use Rattle.lot_num.specs.Amount.{IsUnits}
use Rattle.lot_posting.specs.Posting.{Books, StopsPosting}
use Rattle.lot_posting.specs.Tally.{AreOf, HaveNumbers, StopsAt, plain}

-- ---- legs at lots

pub AreOf-lots : (entry posting : ℕ) (account commodity : List ℕ) (place : ℕ) (lots : List (LotKey × ℤ))
    → AreOf account posting (legs_at_lots entry posting account commodity place lots)
AreOf-lots entry posting account commodity place [] = tt
AreOf-lots entry posting account commodity place (lot ∷ lots) = ((refl, refl), AreOf-lots entry posting account commodity (suc place) lots)

pub HaveNumbers-lots : (entry posting : ℕ) (account commodity : List ℕ) (place : ℕ) (lots : List (LotKey × ℤ)) → HasNumber entry posting
    → HaveNumbers (legs_at_lots entry posting account commodity place lots)
HaveNumbers-lots entry posting account commodity place [] has = tt
HaveNumbers-lots entry posting account commodity place (lot ∷ lots) has =
    (has, HaveNumbers-lots entry posting account commodity (suc place) lots has)

abbrev size : LotKey × ℤ → ℕ
size lot = unsigned_abs lot.1

pub units_moved-lots : (entry posting : ℕ) (account commodity : List ℕ) (place : ℕ) (lots : List (LotKey × ℤ))
    → units_moved (legs_at_lots entry posting account commodity place lots) ≡ held_in lots
units_moved-lots entry posting account commodity place [] = refl
units_moved-lots entry posting account commodity place (lot ∷ lots) =
    sum_by-cons (λ (leg : Leg). unsigned_abs leg.units) (leg_at entry posting place account commodity (Some lot.0) lot.1)
    (legs_at_lots entry posting account commodity (suc place) lots)
    ∙ ap (λ n. unsigned_abs lot.1 + n) (units_moved-lots entry posting account commodity (suc place) lots)
    ∙ sym (sum_by-cons size lot lots)

-- ---- what the legs of a posting with braces move

size_of-chosen : (units : ℤ) (choice : Choice) (lots : List (LotKey × ℤ))
    → held_in (chosen_legs units choice lots) ≡ given choice lots
size_of-chosen units choice [] = refl
size_of-chosen units choice (lot ∷ lots) =
    let rest = size_of-chosen units choice lots in
    let legs = chosen_legs units choice lots in
    let part = with_sign_of units (choice lot.0) in
    elim (cases_Bool (nat_eq (choice lot.0) 0)) [
      | inl none ↦
          let zero : choice lot.0 ≡ 0 = eqb-true (choice lot.0) 0 none in
          ap (λ b. held_in (cond b legs ((lot.0, part) ∷ legs))) none ∙ rest ∙ omega (arith, zero)
      | inr some ↦
          ap (λ b. held_in (cond b legs ((lot.0, part) ∷ legs))) some ∙ sum_by-cons size (lot.0, part) legs
          ∙ (λ i. size_of-sign units (choice lot.0) i + rest i)
    ] ∙ sym (sum_by-cons (λ (lot : LotKey × ℤ). choice lot.0) lot lots)

-- the legs have one sign, so they move as much as the posting
pub held_in-legs : (posting : Braced) (reduces : Bool) (legs : List (LotKey × ℤ)) → ComesTo posting (Legs reduces legs)
    → held_in legs ≡ unsigned_abs posting.units
held_in-legs posting false legs comes = ap held_in comes.1.leg ∙ omega arith
held_in-legs posting true legs comes =
    let takes = comes.1 in
    ap held_in takes.chosen ∙ size_of-chosen posting.units takes.choice takes.listed
    ∙ sum_by-IsPermutation (λ (lot : LotKey × ℤ). takes.choice lot.0) (candidates posting) takes.listed takes.same ∙ takes.is.sum

-- ---- the legs of a posting that takes lots away

same_sign-of : (units : ℤ) (amount : ℕ) → units ≢ pos 0 → 1 ≤ amount → same_sign units (with_sign_of units amount) ≡ true
same_sign-of units amount some more = grind (arith, ints)

signs-chosen : (units : ℤ) (choice : Choice) (lots : List (LotKey × ℤ)) → units ≢ pos 0
    → list_all (λ (leg : LotKey × ℤ). same_sign units leg.1) (chosen_legs units choice lots) ≡ true
signs-chosen units choice [] some = refl
signs-chosen units choice (lot ∷ lots) some =
    let rest = signs-chosen units choice lots some in
    let legs = chosen_legs units choice lots in
    let part = with_sign_of units (choice lot.0) in
    let fits = list_all (λ (leg : LotKey × ℤ). same_sign units leg.1) in
    elim (cases_Bool (nat_eq (choice lot.0) 0)) [
      | inl none ↦ ap (λ b. fits (cond b legs ((lot.0, part) ∷ legs))) none ∙ rest
      | inr more ↦
          ap (λ b. fits (cond b legs ((lot.0, part) ∷ legs))) more
          ∙ (λ i. same_sign-of units (choice lot.0) some (omega (arith, eqb-false (choice lot.0) 0 more)) i && rest i)
    ]

pub AreLegsOf-taken : (posting : Braced) (legs : List (LotKey × ℤ)) → ComesTo posting (Legs true legs) → AreLegsOf posting.units legs
AreLegsOf-taken posting legs comes = record {
  some = comes.0.0;
  signs =
      ap (list_all (λ (leg : LotKey × ℤ). same_sign posting.units leg.1)) comes.1.chosen
      ∙ signs-chosen posting.units comes.1.choice comes.1.listed comes.0.0;
  sum = units_of_legs posting true legs comes;
}

-- ---- the legs of a posting

pub AreOf-legs : (line : Line) (cost : Option Cost) (reduces : Bool) (legs : List Leg) → HasLegs line cost reduces legs
    → AreOf line.account line.place legs
AreOf-legs line None reduces legs has = subst (AreOf line.account line.place) (sym has.1) ((refl, refl), tt)
AreOf-legs line (Some cost) reduces legs has =
    subst (AreOf line.account line.place) (sym has.2) (AreOf-lots line.entry line.place line.account line.amount.commodity 0 has.0)

-- the legs of a posting with braces are those at the lots that it comes to
pub has_lots : (line : Line) (cost : Cost) (entry : ℕ) (reduces : Bool) (lots passed : List (LotKey × ℤ)) (legs : List Leg)
    → line.amount.cost ≡ Some cost → entry ≡ line.entry → ComesTo (braced line cost) (Legs reduces lots) → passed ≡ lots
    → legs ≡ legs_at_lots entry line.place line.account line.amount.commodity 0 passed
    → HasLegs line line.amount.cost reduces legs
has_lots line cost entry reduces lots passed legs is number comes same are =
    subst (λ (c : Option Cost). HasLegs line c reduces legs) (sym is)
    (lots, comes, are ∙ (λ i. legs_at_lots (number i) line.place line.account line.amount.commodity 0 (same i)))

-- what a draft has once the legs of a posting are added to it
pub record Adds (facts : Facts) (amount : Amount) (added : List Leg) (old new : Draft) : Type 0 where
  pub legs : new.tally.legs ≡ old.tally.legs ++ added
  pub sum : (weights : List (List ℕ × ℤ)) → old.residuals ≡ residuals weights
      → new.residuals ≡ residuals (weights ++ weights_by amount.cost amount added)
  pub within : (count : ℕ) → AreWithin count old.residuals → AreWithin (suc count) new.residuals
  pub in_range : (account : List ℕ) (posting : ℕ) → AreOf account posting added
      → leave_range (with_legs account (facts.held account) old.tally.legs) added ≡ false

-- so it is where another tally had the same legs before
pub adds_after : (facts : Facts) (amount : Amount) (added : List Leg) (old : Draft) (tally : Tally) (new : Draft)
    → tally.legs ≡ old.tally.legs → Adds facts amount added (record old { tally = tally }) new → Adds facts amount added old new
adds_after facts amount added old tally new same adds = record {
  legs = adds.legs ∙ ap (λ (legs : List Leg). legs ++ added) same;
  sum = adds.sum;
  within = adds.within;
  in_range = λ account posting of.
      subst (λ (legs : List Leg). leave_range (with_legs account (facts.held account) legs) added ≡ false) same
      (adds.in_range account posting of);
}

-- ---- sales

-- the sale that takes these lots
abbrev sale_with : ℤ → Booked → List (LotKey × ℤ) → SaleParts
sale_with day booked lots = record {
  day = day;
  account = booked.account;
  commodity = booked.amount.commodity;
  units = booked.amount.units;
  price = booked.amount.price;
  legs = lots;
}

abbrev sold : ℤ → Booked → List (LotKey × ℤ) → Bool → List (ℕ × SaleParts)
sold day booked lots reduces = cond reduces ((booked.place, sale_with day booked lots) ∷ []) []

-- a posting that takes no lots away adds no sale
pub no_sale : (day : ℤ) (booked : Booked) (before new : List (ℕ × SaleParts)) → booked.reduces ≡ false → new ≡ before
    → new ≡ before ++ sales_of day booked
no_sale day booked before new keeps same =
    same ∙ sym (ap (λ r. before ++ sold day booked (lots_in_legs booked.legs) r) keeps ∙ append-nil before)

-- one that takes lots away adds one
pub one_sale : (day : ℤ) (booked : Booked) (before new : List (ℕ × SaleParts)) (lots : List (LotKey × ℤ))
    → booked.reduces ≡ true → lots_in_legs booked.legs ≡ lots
    → new ≡ before ++ (booked.place, sale_with day booked lots) ∷ [] → new ≡ before ++ sales_of day booked
one_sale day booked before new lots takes are adds =
    adds ∙ sym (λ i. before ++ sold day booked (are i) (takes i))

-- ---- a posting is booked, or stops

-- a draft with the legs of a posting, and its sale if it takes lots away
pub books : (ties : TieRule) (facts : Facts) (day : ℤ) (place : ℕ) (account : List ℕ) (amount : Amount) (old new : Draft)
    (reduces : Bool) (legs : List Leg)
    → HasLegs (line_under ties facts day old.tally.legs place account amount) amount.cost reduces legs
    → Adds facts amount legs old new
    → new.sales ≡ old.sales ++ sales_of day (record { place = place; account = account; amount = amount; reduces = reduces; legs = legs })
    → Books ties facts day place account amount old new
books ties facts day place account amount old new reduces legs has adds sales =
    let line = line_under ties facts day old.tally.legs place account amount in
    record {
      booked = record { place = place; account = account; amount = amount; reduces = reduces; legs = legs };
      is = record {
        place = refl;
        account = refl;
        amount = refl;
        legs = has;
        range = adds.in_range account place (AreOf-legs line amount.cost reduces legs has);
      };
      legs = adds.legs;
      sum = adds.sum;
      within = adds.within;
      sales = sales;
    }

-- legs that leave the range of units stop their posting
stops_at_legs : (line : Line) (reduces : Bool) (legs : List Leg) (stop : Stop)
    → HasLegs line line.amount.cost reduces legs → StopsAt line.held line.place legs stop → StopsPosting line stop
stops_at_legs line reduces legs (Refused refusal) has out =
    inr (record { reduces = reduces; legs = legs; has = has; leave = out.0; refusal = out.1 })
stops_at_legs line reduces legs Memory has out = tt

-- the same, of what an addition that stops ensures
pub stops_with : (ties : TieRule) (facts : Facts) (day : ℤ) (before : List Leg) (place : ℕ) (account : List ℕ) (amount : Amount)
    (reduces : Bool) (legs : List Leg) (stop : Stop)
    → HasLegs (line_under ties facts day before place account amount) amount.cost reduces legs
    → ((other : List ℕ) (posting : ℕ) → AreOf other posting legs
    → StopsAt (with_legs other (facts.held other) before) posting legs stop)
    → StopsPosting (line_under ties facts day before place account amount) stop
stops_with ties facts day before place account amount reduces legs stop has stops =
    let line = line_under ties facts day before place account amount in
    stops_at_legs line reduces legs stop has (stops account place (AreOf-legs line amount.cost reduces legs has))

-- ---- a posting without braces

-- what its account holds after it, lots aside
abbrev plain_after : Facts → List Leg → List ℕ → Amount → ℤ
plain_after facts before account amount = units_after facts before (plain account amount.commodity) +ℤ amount.units

-- it is refused where that is out of range
pub plain_out : (ties : TieRule) (facts : Facts) (day : ℤ) (before : List Leg) (place : ℕ) (account : List ℕ) (amount : Amount) → amount.cost ≡ None
    → (IsUnits (plain_after facts before account amount) → ⊥)
    → StopsPosting (line_under ties facts day before place account amount) (Refused (Range place))
plain_out ties facts day before place account amount is out =
    let line = line_under ties facts day before place account amount in
    let leg = plain_leg line in
    inr
    (record {
      reduces = false;
      legs = leg ∷ [];
      has = subst (λ (cost : Option Cost). HasLegs line cost false (leg ∷ [])) (sym is) (refl, refl);
      leave = leave_range-stops line.held leg [] out;
      refusal = refl;
    })

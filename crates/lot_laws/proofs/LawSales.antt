-- The legs of a posting that takes lots away.
use Rattle.std.specs.Prelude.{◌≡◌, ◌≢◌, ℕ, ◌≤◌, nat_eq, true, cond, ◌&&◌, List, [], ◌∷◌, Option, None, Some, ℤ, pos}
use Rattle.std.specs.List.{list_all}
use Rattle.std.proofs.Common.{refl, sym, ap, subst, ◌∙◌, arith}
use Rattle.std.proofs.lemmas.Bool.{eqb-false, true≢false}
use Rattle.std.proofs.lemmas.Int.{ints}
use Rattle.lot_cost.specs.declared.lot_key.LotKey.{LotKey}
use Rattle.lot_cost.specs.declared.cost.Cost.{Cost}
use Rattle.lot_booking.specs.Booking.{Braced, ComesTo, Legs}
use Rattle.lot_booking.specs.Choice.{Choice, chosen_legs, with_sign_of}
use Rattle.lot_booking.proofs.BookingLaws.{units_of_legs}
use Rattle.lot_book.specs.declared.leg.Leg.{Leg}
use Rattle.lot_book.specs.Booking.{Booked, HasLegs, IsBooked, Line, braced}
use Rattle.lot_book.specs.Leg.{legs_at_lots}
use Rattle.lot_book.specs.Sale.{AreLegsOf, same_sign}
use Rattle.lot_book.proofs.CaseLemmas.{by_bool}

sign_of_part : (units : ℤ) (amount : ℕ) → units ≢ pos 0 → 1 ≤ amount → same_sign units (with_sign_of units amount) ≡ true
sign_of_part units amount some part = grind (arith, ints)

signs_of_chosen : (units : ℤ) (choice : Choice) (lots : List (LotKey × ℤ)) → units ≢ pos 0
    → list_all (λ (leg : LotKey × ℤ). same_sign units leg.1) (chosen_legs units choice lots) ≡ true
signs_of_chosen units choice [] some = refl
signs_of_chosen units choice (lot ∷ lots) some =
    let legs = chosen_legs units choice lots in
    let leg : LotKey × ℤ = (lot.0, with_sign_of units (choice lot.0)) in
    let test = λ (leg : LotKey × ℤ). same_sign units leg.1 in
    let rest = signs_of_chosen units choice lots some in
    by_bool (nat_eq (choice lot.0) 0)
    (λ e. ap (λ b. list_all test (cond b legs (leg ∷ legs))) e ∙ rest)
    (λ e. ap (λ b. list_all test (cond b legs (leg ∷ legs))) e
    ∙ ap (λ b. b && list_all test legs) (sign_of_part units (choice lot.0) some (omega (arith, eqb-false (choice lot.0) 0 e))) ∙ rest)

are_legs : (posting : Braced) (legs : List (LotKey × ℤ)) → ComesTo posting (Legs true legs) → AreLegsOf posting.units legs
are_legs posting legs comes = record {
  some = comes.0.0;
  signs = subst (λ (ls : List (LotKey × ℤ)). list_all (λ (leg : LotKey × ℤ). same_sign posting.units leg.1) ls ≡ true) (sym comes.1.chosen)
      (signs_of_chosen posting.units comes.1.choice comes.1.listed comes.0.0);
  sum = units_of_legs posting true legs comes;
}

sold_legs : (line : Line) (cost : Option Cost) (legs : List Leg) → HasLegs line cost true legs
    → (lots : List (LotKey × ℤ)) × AreLegsOf line.amount.units lots × (legs ≡ legs_at_lots line.entry line.place line.account line.amount.commodity 0 lots)
sold_legs line None legs h = absurd (true≢false h.0)
sold_legs line (Some cost) legs h = (h.0, are_legs (braced line cost) h.0 h.1, h.2)

pub booked_sale : (line : Line) (booked : Booked) → IsBooked line booked → booked.reduces ≡ true
    → (lots : List (LotKey × ℤ)) × AreLegsOf line.amount.units lots × (booked.legs ≡ legs_at_lots line.entry line.place line.account line.amount.commodity 0 lots)
booked_sale line booked is sells =
    sold_legs line line.amount.cost booked.legs (subst (λ b. HasLegs line line.amount.cost b booked.legs) sells is.legs)

-- What units take where there is one lot for them, which holds as many: the one leg is all of them.
use Rattle.std.specs.Prelude.{◌≡◌, ◌≢◌, ℕ, ◌≤◌, Bool, true, false, nat_eq, cond, List, [], ◌∷◌, Some, is_some, ℤ, pos, unsigned_abs}
use Rattle.std.specs.Option.{unwrap_or}
use Rattle.std.proofs.Common.{arith, inl, refl, sym, ap, subst, ◌∙◌}
use Rattle.std.proofs.lemmas.Bool.{true≢false}
use Rattle.std.proofs.lemmas.Bool.Decides.{nat_tests}
use Rattle.std.proofs.lemmas.Int.{ints}
use Rattle.std.proofs.lemmas.List.Sorted.{IsPermutation-refl}
use Rattle.lot_cost.specs.declared.lot_key.LotKey.{LotKey}
use Rattle.lot_cost.specs.declared.method.Method.{Method}
use Rattle.lot_cost.specs.declared.method.Method.TheVariants.{Strict, Fifo, Lifo, Hifo, Unmatched}
use Rattle.lot_inv.specs.declared.lot.Lot.{Lot}
use Rattle.lot_inv.specs.Foremost.{numbered, only_of}
use Rattle.lot_inv.specs.Inventory.{held_in}
use Rattle.lot_inv.specs.Lot.{key_and_units}
use Rattle.lot_inv.proofs.AvailableLemmas.{held_in-cons}
use Rattle.lot_booking.specs.Choice.{Choice, InTurn, Takes, with_sign_of}
use Rattle.lot_booking.specs.Method.{Ties, highest_by, may_reduce, newest_by, oldest_by, order_by, rule_by}
use Rattle.lot_booking.specs.Order.{IsOrder}
use Rattle.lot_booking.proofs.BookingLaws.{whole_amount}
use Rattle.lot_booking.proofs.ChoiceLemmas.{given-cons}
use Rattle.lot_booking.proofs.OpeningOrders.{is_order_by}

-- a lot that is the only one is all of them
only_lot : (opening : LotKey → ℕ) (lots : List (LotKey × ℤ)) (lot : Lot) → Some lot ≡ only_of (numbered opening lots) → lots ≡ key_and_units lot ∷ []
only_lot opening [] lot is = absurd (true≢false (ap is_some is))
only_lot opening (one ∷ []) lot is = ap (λ o. key_and_units (unwrap_or o lot) ∷ []) (sym is)
only_lot opening (one ∷ next ∷ lots) lot is = absurd (true≢false (ap is_some is))

module _ (lot : LotKey × ℤ) (units : ℤ) (some : units ≢ pos 0) (enough : unsigned_abs units ≤ held_in (lot ∷ [])) where
  -- the choice that gives the amount to each lot
  abbrev all : Choice
  all key = unsigned_abs units

  in_turn : (before : LotKey → LotKey → Bool) → IsOrder before → InTurn before (lot ∷ []) all
  in_turn before order = ((λ first. absurd (true≢false (sym first ∙ order.never_itself lot.0)), tt), tt)

  allowed : (ties : Ties) (method : Method) → may_reduce method ≡ true → rule_by ties method (lot ∷ []) all
  allowed ties Strict may = inl refl
  allowed ties Fifo may = in_turn (oldest_by ties) (is_order_by ties Fifo)
  allowed ties Lifo may = in_turn (newest_by ties) (is_order_by ties Lifo)
  allowed ties Hifo may = in_turn (highest_by ties) (is_order_by ties Hifo)
  allowed ties Unmatched may = absurd (true≢false (sym may))

  abbrev leg : ℤ → List (LotKey × ℤ)
  leg part = (lot.0, part) ∷ []

  whole : leg units ≡ leg (with_sign_of units (unsigned_abs units))
  whole = ap leg (sym (whole_amount units))

  gives_more : cond (nat_eq (unsigned_abs units) 0) [] (leg (with_sign_of units (unsigned_abs units))) ≡ leg (with_sign_of units (unsigned_abs units))
  gives_more =
      let none : nat_eq (unsigned_abs units) 0 ≡ false = grind (arith, ints, nat_tests) in
      ap (λ b. cond b [] (leg (with_sign_of units (unsigned_abs units)))) none

  takes_one : (ties : Ties) (method : Method) → may_reduce method ≡ true
      → Takes (rule_by ties method) (order_by ties method) (lot ∷ []) units (leg units)
  takes_one ties method may =
      let one = held_in-cons lot [] in
      let sum = given-cons all lot [] in
      record {
        choice = all;
        is = record { within = (omega (arith, one, enough), tt); sum = omega (arith, sum); allowed = allowed ties method may };
        listed = lot ∷ [];
        same = IsPermutation-refl (lot ∷ []);
        order = (tt, tt);
        chosen = whole ∙ sym gives_more;
      }

-- units take the only one of lots that suffice for them
pub takes_only : (ties : Ties) (method : Method) → may_reduce method ≡ true → (opening : LotKey → ℕ) (lots : List (LotKey × ℤ)) (lot : Lot) (units : ℤ)
    → units ≢ pos 0 → unsigned_abs units ≤ held_in lots → Some lot ≡ only_of (numbered opening lots)
    → Takes (rule_by ties method) (order_by ties method) lots units ((lot.key, units) ∷ [])
takes_only ties method may opening lots lot units some enough only =
    let is = only_lot opening lots lot only in
    subst (λ (ls : List (LotKey × ℤ)). Takes (rule_by ties method) (order_by ties method) ls units ((lot.key, units) ∷ [])) (sym is)
    (takes_one (key_and_units lot) units some (subst (λ (ls : List (LotKey × ℤ)). unsigned_abs units ≤ held_in ls) is enough) ties method may)

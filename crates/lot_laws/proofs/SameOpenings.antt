-- Opening numbers that are the same for the lots that are held: they remain so, leg by leg, and decide ties alike.
use Rattle.std.specs.Prelude.{◌≡◌, ℕ, ◌&&◌, true, false, cond, List, [], ◌∷◌, Some, pos, ◌+ℤ◌}
use Rattle.std.specs.List.{AllByRecursion}
use Rattle.std.specs.Option.{unwrap_or}
use Rattle.std.specs.Ordering.{int_eq}
use Rattle.std.proofs.Common.{refl, sym, ap, ◌∙◌}
use Rattle.lot_cost.specs.declared.lot_key.LotKey.{LotKey}
use Rattle.lot_inv.specs.Inventory.{Held, units_at}
use Rattle.lot_booking.proofs.ListLemmas.{all_both}
use Rattle.lot_booking.proofs.SameTies.{IsHeldLot, same_by_opening}
use Rattle.lot_book.specs.declared.change.Pair.{Pair}
use Rattle.lot_book.specs.declared.leg.Leg.{Leg}
use Rattle.lot_book.specs.declared.leg.Position.{Position}
use Rattle.lot_book.specs.Agree.{HaveSameOf}
use Rattle.lot_book.specs.Leg.{same_position, with_leg, with_legs}
use Rattle.lot_book.specs.OpeningNumber.{opening_with_leg, opening_with_legs, posting_number}
use Rattle.lot_book.specs.Openings.{AgreesOnOpenings, FactsWithOpenings, HaveSameOpenings, opening_after, ties_on}
use Rattle.lot_book.proofs.CaseLemmas.{by_bool}
use Rattle.lot_book.proofs.LegLemmas.{with_leg-at}
use Rattle.lot_book.proofs.OrderLemmas.{same_position-turned}
use Rattle.lot_laws.specs.Laws.{lot_at}
use Rattle.lot_laws.proofs.StepAgree.{TiesAlike}
use Rattle.lot_laws.proofs.StepHeld.{HaveSame, IsOf, same_of, same_with_leg}

-- ---- behind further legs

module _ (account commodity : List ℕ) where
  abbrev at_lot : LotKey → Position
  at_lot = lot_at account commodity

  -- what a lot holds after a leg
  units_with_leg : (held : Held) (leg : Leg) (lot : LotKey)
      → units_at (with_leg account held leg) (commodity, Some lot)
      ≡ cond (same_position (at_lot lot) leg.position) (units_at held (commodity, Some lot) +ℤ leg.units) (units_at held (commodity, Some lot))
  units_with_leg held leg lot =
      let had = units_at held (commodity, Some lot) in
      with_leg-at held leg (at_lot lot)
      ∙ ap (λ b. cond b (had +ℤ leg.units) had) (same_position-turned leg.position (at_lot lot))

  -- a lot that holds something after a leg was opened by it, or held something before
  held_before : (held : Held) (leg : Leg) (lot : LotKey)
      → (same_position (at_lot lot) leg.position && int_eq (units_at held (commodity, Some lot)) (pos 0)) ≡ false
      → IsHeldLot (with_leg account held leg) commodity lot → IsHeldLot held commodity lot
  held_before held leg lot apart some none =
      let had = units_at held (commodity, Some lot) in
      let here = same_position (at_lot lot) leg.position in
      let elsewhere : here ≡ false = by_bool here
      (λ e. let both : (here && int_eq had (pos 0)) ≡ true = ap (λ b. b && int_eq had (pos 0)) e ∙ ap (λ z. int_eq z (pos 0)) none in cc)
      (λ e. e) in
      some (units_with_leg held leg lot ∙ ap (λ b. cond b (had +ℤ leg.units) had) elsewhere ∙ none)

  -- they are the same after a leg
  pub same_after_leg : (a b : Held) (f g : LotKey → ℕ) (leg : Leg) → HaveSame (IsOf commodity) a b → HaveSameOpenings commodity a f g
      → HaveSameOpenings commodity (with_leg account a leg) (opening_with_leg account commodity a f leg)
      (opening_with_leg account commodity b g leg)
  same_after_leg a b f g leg same numbers lot some =
      let here = same_position (at_lot lot) leg.position in
      let opens = here && int_eq (units_at a (commodity, Some lot)) (pos 0) in
      let number = posting_number leg in
      let held : cond opens number (g lot) ≡ opening_with_leg account commodity b g leg lot =
      ap (λ found. cond (here && int_eq (unwrap_or found (pos 0)) (pos 0)) number (g lot)) (same (commodity, Some lot) refl) in
      by_bool opens
      (λ opened. ap (λ b. cond b number (f lot)) opened ∙ ap (λ b. cond b number (g lot)) (sym opened))
      (λ apart.
      ap (λ b. cond b number (f lot)) apart ∙ numbers lot (held_before a leg lot apart some)
      ∙ ap (λ b. cond b number (g lot)) (sym apart))
      ∙ held

  pub same_after_legs : (a b : Held) (f g : LotKey → ℕ) (legs : List Leg) → HaveSame (IsOf commodity) a b → HaveSameOpenings commodity a f g
      → HaveSameOpenings commodity (with_legs account a legs) (opening_with_legs account commodity a f legs)
      (opening_with_legs account commodity b g legs)
  same_after_legs a b f g [] same numbers = numbers
  same_after_legs a b f g (leg ∷ legs) same numbers =
      same_after_legs (with_leg account a leg) (with_leg account b leg)
      (opening_with_leg account commodity a f leg) (opening_with_leg account commodity b g leg) legs
      (same_with_leg (IsOf commodity) account a b leg same) (same_after_leg a b f g leg same numbers)

-- ---- how ties are decided

-- facts that agree on what is held at some pairs, and on the numbers of the lots there, decide ties there alike
pub ties_alike : (a b : FactsWithOpenings) (pairs : List Pair)
    → AllByRecursion (λ (pair : Pair). HaveSameOf pair.commodity (a.facts.held pair.account) (b.facts.held pair.account)) pairs
    → AgreesOnOpenings a b pairs → AllByRecursion (TiesAlike (ties_on a) (ties_on b) a.facts) pairs
ties_alike a b =
    all_both (λ (pair : Pair). HaveSameOf pair.commodity (a.facts.held pair.account) (b.facts.held pair.account))
    (λ (pair : Pair). HaveSameOpenings pair.commodity (a.facts.held pair.account)
    (a.opening pair.account pair.commodity) (b.opening pair.account pair.commodity))
    (TiesAlike (ties_on a) (ties_on b) a.facts)
    (λ pair held numbers before.
    same_by_opening (IsHeldLot (with_legs pair.account (a.facts.held pair.account) before) pair.commodity)
    (opening_after a before pair.account pair.commodity) (opening_after b before pair.account pair.commodity)
    (same_after_legs pair.account pair.commodity (a.facts.held pair.account) (b.facts.held pair.account)
    (a.opening pair.account pair.commodity) (b.opening pair.account pair.commodity) before
    (same_of pair.commodity (a.facts.held pair.account) (b.facts.held pair.account) held) numbers))

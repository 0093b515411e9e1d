-- Lots that are kept are still those of their pair once one more leg is added to them.
use Rattle.std.specs.Prelude.{◌≡◌, ◌≢◌, ℕ, Bool, true, false, cond, not, ◌&&◌, List, [], ◌∷◌, ◌++◌, Option, None, Some, is_some, ℤ, pos, ◌+ℤ◌}
use Rattle.std.specs.BTreeMap.{is_at}
use Rattle.std.specs.FinMap.{get}
use Rattle.std.specs.Map.{lookup}
use Rattle.std.specs.Option.{unwrap_or}
use Rattle.std.specs.Ordering.{int_eq}
use Rattle.std.proofs.Common.{refl, sym, ap, subst, ◌∙◌}
use Rattle.lot_cost.specs.LotKey.{lot_cmp}
use Rattle.lot_cost.specs.declared.lot_key.LotKey.{LotKey}
use Rattle.lot_inv.specs.Inventory.{Held, NumbersLots, Position as Place, Stock, added_lot, non_zero, opened_at, opening_at, units_at}
use Rattle.lot_inv.specs.Zeros.{HasNoZeros}
use Rattle.lot_inv.proofs.LawLemmas.{lots_of-get}
use Rattle.lot_inv.proofs.LotLemmas.{get-with_units_here, same_lots}
use Rattle.lot_book.specs.declared.leg.Leg.{Leg}
use Rattle.lot_book.specs.declared.leg.Position.{Position}
use Rattle.lot_book.specs.Leg.{same_position, with_legs}
use Rattle.lot_book.specs.OpeningNumber.{opening_with_leg, posting_number}
use Rattle.lot_book.specs.Openings.{FactsWithOpenings, opening_after}
use Rattle.lot_book.proofs.CaseLemmas.{by_bool}
use Rattle.lot_book.proofs.HeldLemmas.{at, get-with_row}
use Rattle.lot_book.proofs.LegLemmas.{with_legs-append}
use Rattle.lot_book.proofs.OrderLemmas.{one_position, same_position-itself}
use Rattle.lot_posting.specs.Tally.{HasLotsAfter, is_lot_of}
use Rattle.lot_posting.proofs.TallyLemmas.{not_at}
use Rattle.lot_posting.proofs.TallyLots.{key_of, number-apart, number-here, some_units, units-apart}
use Rattle.lot_posting.proofs.TallyOpenings.{opening_with_legs-push}

-- ---- a number that is there, or isn't

unwrap-there : (found : Option ℕ) (a b : ℕ) → is_some found ≡ true → unwrap_or found a ≡ unwrap_or found b
unwrap-there (Some n) a b some = refl
unwrap-there None a b some = cc

unwrap-none : (found : Option ℕ) (a : ℕ) → is_some found ≡ false → unwrap_or found a ≡ a
unwrap-none (Some n) a none = cc
unwrap-none None a none = refl

some-non_zero : (units : ℤ) (zero : Bool) → int_eq units (pos 0) ≡ zero → is_some (non_zero units) ≡ not zero
some-non_zero units true e = ap (λ b. is_some (cond b None (Some units))) e
some-non_zero units false e = ap (λ b. is_some (cond b None (Some units))) e

-- ---- one more leg

module _ (known : FactsWithOpenings) (legs : List Leg) (account commodity : List ℕ) (stock : Stock) (leg : Leg)
    (has : HasLotsAfter known legs account commodity stock) where
  -- what the account holds behind the legs, and with the one more
  abbrev before : Held
  before = with_legs account (known.facts.held account) legs

  abbrev after : Held
  after = with_legs account (known.facts.held account) (legs ++ leg ∷ [])

  -- the units where the leg is, with it
  abbrev sum : ℤ
  sum = units_at before (leg.position.commodity, leg.position.lot) +ℤ leg.units

  same_before : (key : LotKey) → get stock.held (commodity, Some key) ≡ get before (commodity, Some key)
  same_before key =
      sym (lots_of-get stock.held commodity key) ∙ ap (lookup (is_at (lot_cmp key))) has.lots ∙ lots_of-get before commodity key

  get-after : (key : LotKey) → get after (commodity, Some key)
      ≡ cond (same_position (at account (commodity, Some key)) leg.position) (non_zero sum) (get before (commodity, Some key))
  get-after key =
      ap (λ (h : Held). get h (commodity, Some key)) (with_legs-append account (known.facts.held account) legs (leg ∷ []))
      ∙ get-with_row account before (leg.position, sum) (commodity, Some key)

  number-after : (key : LotKey) → opening_after known (legs ++ leg ∷ []) account commodity key
      ≡ opening_with_leg account commodity before (opening_after known legs account commodity) leg key
  number-after key =
      ap (λ (f : LotKey → ℕ). f key)
      (opening_with_legs-push account commodity (known.facts.held account) (known.opening account commodity) legs leg)

  -- a lot at which the leg isn't holds what it did, under its number
  get-apart : (key : LotKey) → same_position (at account (commodity, Some key)) leg.position ≡ false
      → get stock.held (commodity, Some key) ≡ get after (commodity, Some key)
  get-apart key apart =
      same_before key
      ∙ sym (get-after key ∙ ap (λ b. cond b (non_zero sum) (get before (commodity, Some key))) apart)

  same-apart : (key : LotKey) → same_position (at account (commodity, Some key)) leg.position ≡ false
      → units_at stock.held (commodity, Some key) ≢ pos 0
      → opening_at stock commodity key ≡ opening_after known (legs ++ leg ∷ []) account commodity key
  same-apart key apart some =
      has.openings key some
      ∙ sym
      (number-after key
      ∙ ap (λ b. cond (b && int_eq (units_at before (commodity, Some key)) (pos 0)) (posting_number leg)
      (opening_after known legs account commodity key)) apart)

  -- a leg at none of the lots leaves them
  pub has-apart : is_lot_of account commodity leg.position ≡ false
      → HasLotsAfter known (legs ++ leg ∷ []) account commodity stock
  has-apart other =
      let apart = λ (key : LotKey). not_at account commodity leg.position key other in
      record {
        lots = same_lots stock.held after commodity (λ key. get-apart key (apart key));
        openings = λ key some. same-apart key (apart key) some;
      }

  -- one at a lot adds its units there
  module _ (key : LotKey) (is : leg.position ≡ at account (commodity, Some key)) (kept : HasNoZeros stock.held)
      (numbered : NumbersLots stock) where
    abbrev place : Place
    place = (commodity, Some key)

    abbrev number : ℕ
    number = unwrap_or (opened_at stock commodity key) (posting_number leg)

    abbrev now : Stock
    now = added_lot stock place leg.units (posting_number leg)

    here : same_position (at account place) leg.position ≡ true
    here = ap (same_position (at account place)) is ∙ same_position-itself (at account place)

    -- either a lot is that one, or the leg is elsewhere
    by_lot : {P : Type 0} (other : LotKey) → (other ≡ key → P)
        → (other ≢ key → same_position (at account (commodity, Some other)) leg.position ≡ false → P) → P
    by_lot other same apart =
        by_bool (same_position (at account (commodity, Some other)) leg.position)
        (λ e.
        let lots : Some other ≡ Some key =
        ap (λ (p : Position). p.lot) (one_position (at account (commodity, Some other)) leg.position e ∙ is) in same cc)
        (λ e.
        apart
        (λ one.
        let yes : same_position (at account (commodity, Some other)) leg.position ≡ true =
        ap (λ k. same_position (at account (commodity, Some k)) leg.position) one ∙ here in cc)
        e)

    get-here : get now.held place ≡ get after place
    get-here =
        get-with_units_here stock.held place (units_at stock.held place +ℤ leg.units)
        ∙ ap (λ (found : Option ℤ). non_zero (unwrap_or found (pos 0) +ℤ leg.units)) (same_before key)
        ∙ sym
        (get-after key
        ∙ ap (λ b. cond b (non_zero sum) (get before place)) here
        ∙ ap (λ (p : Position). non_zero (units_at before (p.commodity, p.lot) +ℤ leg.units)) is)

    -- a lot that held nothing has the number of the leg, any other its own
    own_number : (none : Bool) → int_eq (units_at stock.held place) (pos 0) ≡ none
        → number ≡ cond none (posting_number leg) (opening_after known legs account commodity key)
    own_number true e =
        unwrap-none (opened_at stock commodity key) (posting_number leg)
        (numbered commodity key ∙ ap is_some (kept place) ∙ some-non_zero (units_at stock.held place) true e)
    own_number false e =
        unwrap-there (opened_at stock commodity key) (posting_number leg) 0
        (numbered commodity key ∙ ap is_some (kept place) ∙ some-non_zero (units_at stock.held place) false e)
        ∙ has.openings key
        (λ zero. let is_none : int_eq (units_at stock.held place) (pos 0) ≡ true = ap (λ z. int_eq z (pos 0)) zero in cc)

    number-its : units_at now.held place ≢ pos 0
        → opening_at now commodity key ≡ opening_after known (legs ++ leg ∷ []) account commodity key
    number-its some =
        let test = λ (found : Option ℤ). int_eq (unwrap_or found (pos 0)) (pos 0) in
        let opening = opening_after known legs account commodity key in
        number-here stock commodity key (units_at stock.held place +ℤ leg.units) number
        (λ zero. some (ap (λ (found : Option ℤ). unwrap_or found (pos 0))
        (get-with_units_here stock.held place (units_at stock.held place +ℤ leg.units) ∙ ap non_zero zero)))
        ∙ own_number (test (get stock.held place)) refl
        ∙ ap (λ found. cond (test found) (posting_number leg) opening) (same_before key)
        ∙ sym
        (number-after key
        ∙ ap (λ b. cond (b && int_eq (units_at before place) (pos 0)) (posting_number leg) opening) here)

    has-added : HasLotsAfter known (legs ++ leg ∷ []) account commodity now
    has-added = record {
      lots = same_lots now.held after commodity
          (λ other.
          by_lot other
          (λ same. subst (λ k. get now.held (commodity, Some k) ≡ get after (commodity, Some k)) (sym same) get-here)
          (λ apart e.
          units-apart stock commodity key (units_at stock.held place +ℤ leg.units) number other apart ∙ get-apart other e));
      openings = λ other some.
          by_lot other
          (λ same.
          subst (λ k. units_at now.held (commodity, Some k) ≢ pos 0
          → opening_at now commodity k ≡ opening_after known (legs ++ leg ∷ []) account commodity k) (sym same) number-its some)
          (λ apart e.
          number-apart stock commodity key (units_at stock.held place +ℤ leg.units) number other apart
          ∙ same-apart other e
          (some_units (get stock.held (commodity, Some other)) (get now.held (commodity, Some other))
          (sym (units-apart stock commodity key (units_at stock.held place +ℤ leg.units) number other apart)) some));
    }

  -- once a leg at one of the lots is added
  pub has-here : (new : Stock) → is_lot_of account commodity leg.position ≡ true → HasNoZeros stock.held → NumbersLots stock
      → new ≡ added_lot stock (commodity, leg.position.lot) leg.units (posting_number leg)
      → HasLotsAfter known (legs ++ leg ∷ []) account commodity new
  has-here new at_lot kept numbered becomes =
      let key = (key_of account commodity leg.position at_lot).0 in
      let is = (key_of account commodity leg.position at_lot).1 in
      subst (λ (stock : Stock). HasLotsAfter known (legs ++ leg ∷ []) account commodity stock)
      (sym (becomes ∙ ap (λ (p : Position). added_lot stock (commodity, p.lot) leg.units (posting_number leg)) is))
      (has-added key is kept numbered)

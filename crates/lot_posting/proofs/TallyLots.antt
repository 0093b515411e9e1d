-- The lots of a commodity, set one after another to what they hold behind legs, each with its opening number.
use Rattle.std.specs.Prelude.{◌≡◌, ◌≢◌, ℕ, true, false, cond, List, [], ◌∷◌, Option, None, Some, is_some, ℤ, pos}
use Rattle.std.specs.BTreeMap.{BTreeMap, is_at}
use Rattle.std.specs.BTreeMap as tree
use Rattle.std.specs.Cmp.{signed_Decides, tied_itself}
use Rattle.std.specs.FinMap.{get, insert, remove, get-insert, get-remove}
use Rattle.std.specs.Map.{lookup}
use Rattle.std.specs.Option.{unwrap_or}
use Rattle.std.specs.Ordering.{eq_by_cmp, int_eq, is_eq}
use Rattle.std.proofs.Common.{refl, sym, ap, subst, ◌∙◌}
use Rattle.lot_cost.specs.LotKey.{lot_cmp}
use Rattle.lot_cost.specs.declared.lot_key.LotKey.{LotKey}
use Rattle.lot_cost.proofs.OrderLemmas.{is_equal}
use Rattle.lot_inv.specs.Inventory.{Held, Opened, Position as Place, Stock, lots_of, non_zero, opening_at, position_cmp as place_cmp, units_at, with_lot, with_opening}
use Rattle.lot_inv.specs.Zeros.{HasNoZeros}
use Rattle.lot_inv.proofs.LawLemmas.{lots_of-get}
use Rattle.lot_inv.proofs.LotLemmas.{get-with_units_apart, get-with_units_here, same_lots}
use Rattle.lot_inv.proofs.OrderLemmas.{exact_positions as exact_places, positions_total as places_total}
use Rattle.lot_book.specs.declared.leg.Leg.{Leg}
use Rattle.lot_book.specs.declared.leg.Position.{Position}
use Rattle.lot_book.specs.Change.{ListsOpened, listed_or, units_after}
use Rattle.lot_book.specs.Leg.{position_cmp, same_position, with_legs}
use Rattle.lot_book.specs.Openings.{FactsWithOpenings, HaveSameOpenings, opening_after}
use Rattle.lot_book.proofs.CaseLemmas.{by_bool}
use Rattle.lot_book.proofs.HeldLemmas.{at, no_zeros-legs}
use Rattle.lot_book.proofs.OrderLemmas.{one_position, same_position-itself}
use Rattle.lot_posting.specs.Tally.{HasLotsAfter, is_lot_of}
use Rattle.lot_posting.proofs.TallyLemmas.{lot-parts, not_at}
use Rattle.lot_posting.proofs.TallyOpenings.{AreElsewhere, get-elsewhere, opening-elsewhere, same_after_legs}

-- ---- setting a lot

get-with_opening : (opened : Opened) (commodity : List ℕ) (key : LotKey) (units : ℤ) (opening : ℕ) (other : Place)
    → get (with_opening opened (commodity, Some key) units opening) other
    ≡ cond (eq_by_cmp place_cmp other (commodity, Some key)) (cond (int_eq units (pos 0)) None (Some opening)) (get opened other)
get-with_opening opened commodity key units opening other =
    let place : Place = (commodity, Some key) in
    elim (int_eq units (pos 0)) as (λ b. get (cond b (remove opened place) (insert opened place opening)) other
    ≡ cond (eq_by_cmp place_cmp other place) (cond b None (Some opening)) (get opened other)) [
      | true ↦ get-remove places_total opened place other
      | false ↦ get-insert places_total opened place opening other
    ]

module _ (stock : Stock) (commodity : List ℕ) (key : LotKey) (units : ℤ) (opening : ℕ) where
  abbrev set_lot : Stock
  set_lot = with_lot stock (commodity, Some key) units opening

  -- a lot that is set to some units has that number
  pub number-here : units ≢ pos 0 → opening_at set_lot commodity key ≡ opening
  number-here some =
      let place : Place = (commodity, Some key) in
      let zero : int_eq units (pos 0) ≡ false = by_bool (int_eq units (pos 0)) (λ e. absurd (some ((signed_Decides units (pos 0)).0 e))) (λ e. e) in
      ap (λ (found : Option ℕ). unwrap_or found 0)
      (get-with_opening stock.opened commodity key units opening place
      ∙ ap (λ o. cond (is_eq o) (cond (int_eq units (pos 0)) None (Some opening)) (get stock.opened place)) (tied_itself places_total place)
      ∙ ap (λ b. cond b None (Some opening)) zero)

  -- and any other its own
  pub number-apart : (other : LotKey) → other ≢ key → opening_at set_lot commodity other ≡ opening_at stock commodity other
  number-apart other apart =
      let place : Place = (commodity, Some key) in
      let there : Place = (commodity, Some other) in
      let other_place : eq_by_cmp place_cmp there place ≡ false = by_bool (eq_by_cmp place_cmp there place)
      (λ e.
      let same : there ≡ place = exact_places there place (is_equal (place_cmp there place) e) in
      let lots : Some other ≡ Some key = ap (λ (p : Place). p.1) same in absurd (apart cc))
      (λ e. e) in
      ap (λ (found : Option ℕ). unwrap_or found 0)
      (get-with_opening stock.opened commodity key units opening there
      ∙ ap (λ b. cond b (cond (int_eq units (pos 0)) None (Some opening)) (get stock.opened there)) other_place)

  -- what the others hold
  pub units-apart : (other : LotKey) → other ≢ key → get set_lot.held (commodity, Some other) ≡ get stock.held (commodity, Some other)
  units-apart other apart =
      get-with_units_apart stock.held (commodity, Some key) units (commodity, Some other)
      (λ e. let lots : Some other ≡ Some key = ap (λ (p : Place). p.1) e in apart cc)

-- ---- lots that are set one after another

-- Lots of a commodity are set, but for those at which the legs that are left are. A lot at which none of them is holds what it
-- does behind all legs, under its number there. The number that is listed of any lot, or else its own, is the one there.
pub record AreSet (known : FactsWithOpenings) (legs : List Leg) (openings : BTreeMap Position ℕ) (account commodity : List ℕ)
    (left : List Leg) (lots : Stock) : Type 0 where
  pub held : (key : LotKey) → AreElsewhere account commodity key left
      → get lots.held (commodity, Some key) ≡ get (with_legs account (known.facts.held account) legs) (commodity, Some key)
  pub numbers : (key : LotKey) → units_at (with_legs account (known.facts.held account) legs) (commodity, Some key) ≢ pos 0
      → listed_or openings account commodity key (opening_at lots commodity key) ≡ opening_after known legs account commodity key
  pub opened : (key : LotKey) → AreElsewhere account commodity key left
      → units_at (with_legs account (known.facts.held account) legs) (commodity, Some key) ≢ pos 0
      → opening_at lots commodity key ≡ opening_after known legs account commodity key

pub some_units : (found other : Option ℤ) → found ≡ other → unwrap_or other (pos 0) ≢ pos 0 → unwrap_or found (pos 0) ≢ pos 0
some_units found other same some none = some (ap (λ (o : Option ℤ). unwrap_or o (pos 0)) (sym same) ∙ none)

listed_twice : (listed : Option ℕ) (own : ℕ) → unwrap_or listed (unwrap_or listed own) ≡ unwrap_or listed own
listed_twice None own = refl
listed_twice (Some n) own = refl

-- the key of a lot
pub key_of : (account commodity : List ℕ) (p : Position) → is_lot_of account commodity p ≡ true
    → (key : LotKey) × (p ≡ at account (commodity, Some key))
key_of account commodity p is =
    let parts = lot-parts account commodity p is in
    by p.lot refl parts.0
  where
    by : (lot : Option LotKey) → p.lot ≡ lot → is_some lot ≡ true → (key : LotKey) × (p ≡ at account (commodity, Some key))
    by None e some = cc
    by (Some key) e some =
        let parts = lot-parts account commodity p is in
        (key, (λ i. record { account = parts.1 i; commodity = parts.2 i; lot = e i }))

module _ (known : FactsWithOpenings) (legs : List Leg) (openings : BTreeMap Position ℕ) (account commodity : List ℕ) where
  -- what the account holds behind the legs
  abbrev after : Held
  after = with_legs account (known.facts.held account) legs

  -- the lots of the account, before any is set
  pub before_any : (lots : Stock) → ListsOpened known.facts legs openings
      → lots_of lots.held commodity ≡ lots_of (known.facts.held account) commodity
      → HaveSameOpenings commodity (known.facts.held account) (opening_at lots commodity) (known.opening account commodity)
      → AreSet known legs openings account commodity legs lots
  before_any lots lists alike same =
      let held = known.facts.held account in
      let own = opening_at lots commodity in
      let opening = known.opening account commodity in
      let elsewhere : (key : LotKey) → AreElsewhere account commodity key legs → get after (commodity, Some key) ≡ get held (commodity, Some key) =
      λ key none. get-elsewhere account commodity key held legs none in
      record {
        held = λ key none.
            sym (lots_of-get lots.held commodity key) ∙ ap (lookup (is_at (lot_cmp key))) alike ∙ lots_of-get held commodity key
            ∙ sym (elsewhere key none);
        numbers = λ key some.
            sym (lists account commodity key own)
            ∙ same_after_legs account commodity key held own opening legs (same key) some;
        opened = λ key none some.
            same key (some_units (get held (commodity, Some key)) (get after (commodity, Some key)) (sym (elsewhere key none)) some)
            ∙ sym (opening-elsewhere account commodity key held opening legs none);
      }

  -- a leg at no lot of the commodity leaves them
  pub leaves_all : (leg : Leg) (left : List Leg) (lots : Stock) → is_lot_of account commodity leg.position ≡ false
      → AreSet known legs openings account commodity (leg ∷ left) lots → AreSet known legs openings account commodity left lots
  leaves_all leg left lots other set = record {
    held = λ key none. set.held key (not_at account commodity leg.position key other, none);
    numbers = set.numbers;
    opened = λ key none. set.opened key (not_at account commodity leg.position key other, none);
  }

  -- the lot of a leg is set
  module _ (leg : Leg) (left : List Leg) (lots : Stock) (key : LotKey) (units : ℤ) (opening : ℕ)
      (is : leg.position ≡ at account (commodity, Some key)) (kept : HasNoZeros (known.facts.held account))
      (holds : units ≡ units_at after (commodity, Some key))
      (numbered : opening ≡ listed_or openings account commodity key (opening_at lots commodity key))
      (set : AreSet known legs openings account commodity (leg ∷ left) lots) where
    abbrev with_its : Stock
    with_its = with_lot lots (commodity, Some key) units opening

    -- either a lot is that one, or the leg is elsewhere
    by_lot : {P : Type 0} (other : LotKey) → (other ≡ key → P)
        → (other ≢ key → same_position (at account (commodity, Some other)) leg.position ≡ false → P) → P
    by_lot other here apart =
        by_bool (same_position (at account (commodity, Some other)) leg.position)
        (λ e.
        let lots : Some other ≡ Some key =
        ap (λ (p : Position). p.lot) (one_position (at account (commodity, Some other)) leg.position e ∙ is) in here cc)
        (λ e.
        apart
        (λ same.
        let yes : same_position (at account (commodity, Some other)) leg.position ≡ true =
        ap (λ k. same_position (at account (commodity, Some k)) leg.position) same
        ∙ ap (same_position (at account (commodity, Some key))) is ∙ same_position-itself (at account (commodity, Some key)) in cc)
        e)

    some_here : (other : LotKey) → other ≡ key → units_at after (commodity, Some other) ≢ pos 0 → units ≢ pos 0
    some_here other same some none = some (ap (λ k. units_at after (commodity, Some k)) same ∙ sym holds ∙ none)

    here-number : (other : LotKey) → other ≡ key → units_at after (commodity, Some other) ≢ pos 0
        → opening_at with_its commodity other ≡ listed_or openings account commodity other (opening_at lots commodity other)
    here-number other same some =
        ap (opening_at with_its commodity) same
        ∙ number-here lots commodity key units opening (some_here other same some)
        ∙ numbered
        ∙ ap (λ k. listed_or openings account commodity k (opening_at lots commodity k)) (sym same)

    set_one : AreSet known legs openings account commodity left with_its
    set_one = record {
      held = λ other none.
          by_lot other
          (λ same.
          ap (λ k. get with_its.held (commodity, Some k)) same
          ∙ get-with_units_here lots.held (commodity, Some key) units
          ∙ ap non_zero holds
          ∙ sym (no_zeros-legs account (known.facts.held account) legs kept (commodity, Some key))
          ∙ ap (λ k. get after (commodity, Some k)) (sym same))
          (λ apart e. units-apart lots commodity key units opening other apart ∙ set.held other (e, none));
      numbers = λ other some.
          by_lot other
          (λ same.
          ap (listed_or openings account commodity other) (here-number other same some)
          ∙ listed_twice (tree.get position_cmp openings (at account (commodity, Some other))) (opening_at lots commodity other)
          ∙ set.numbers other some)
          (λ apart e.
          ap (listed_or openings account commodity other) (number-apart lots commodity key units opening other apart)
          ∙ set.numbers other some);
      opened = λ other none some.
          by_lot other
          (λ same. here-number other same some ∙ set.numbers other some)
          (λ apart e. number-apart lots commodity key units opening other apart ∙ set.opened other (e, none) some);
    }

  -- once a leg at a lot of the commodity is looked at
  pub sets_lot : (leg : Leg) (left : List Leg) (lots now : Stock) (units : ℤ) (opening : ℕ)
      → is_lot_of account commodity leg.position ≡ true → HasNoZeros (known.facts.held account)
      → units ≡ units_after known.facts legs leg.position
      → ((lot : LotKey) → leg.position.lot ≡ Some lot
      → opening ≡ listed_or openings leg.position.account leg.position.commodity lot (opening_at lots leg.position.commodity lot))
      → now ≡ with_lot lots (commodity, leg.position.lot) units opening
      → AreSet known legs openings account commodity (leg ∷ left) lots → AreSet known legs openings account commodity left now
  sets_lot leg left lots now units opening at_lot kept holds numbered becomes set =
      let key = (key_of account commodity leg.position at_lot).0 in
      let is = (key_of account commodity leg.position at_lot).1 in
      subst (λ (stock : Stock). AreSet known legs openings account commodity left stock)
      (sym (becomes ∙ ap (λ (p : Position). with_lot lots (commodity, p.lot) units opening) is))
      (set_one leg left lots key units opening is kept
      (holds ∙ ap (λ (p : Position). units_after known.facts legs p) is)
      (subst (λ (p : Position). (lot : LotKey) → p.lot ≡ Some lot
      → opening ≡ listed_or openings p.account p.commodity lot (opening_at lots p.commodity lot)) is numbered key refl)
      set)

  -- where no leg is left, they are those behind all legs, with their numbers
  pub all_set : (lots : Stock) → AreSet known legs openings account commodity [] lots → HasLotsAfter known legs account commodity lots
  all_set lots set = record {
    lots = same_lots lots.held after commodity (λ key. set.held key tt);
    openings = λ key some.
        set.opened key tt (some_units (get after (commodity, Some key)) (get lots.held (commodity, Some key)) (sym (set.held key tt)) some);
  }

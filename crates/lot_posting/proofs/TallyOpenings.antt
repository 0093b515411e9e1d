-- What legs leave of the lots of an account and a commodity, and of the opening numbers of these lots.
use Rattle.std.specs.Prelude.{◌≡◌, ◌≢◌, ℕ, Bool, true, false, cond, ◌&&◌, ◌||◌, List, [], ◌∷◌, ◌++◌, Option, Some, is_some, ℤ, pos, ◌+ℤ◌}
use Rattle.std.specs.BTreeMap.{BTreeMap}
use Rattle.std.specs.BTreeMap as tree
use Rattle.std.specs.FinMap.{get}
use Rattle.std.specs.List.{AllByRecursion, list_any}
use Rattle.std.specs.Option.{unwrap_or}
use Rattle.std.specs.Ordering.{int_eq}
use Rattle.std.proofs.Common.{refl, sym, ap, ◌∙◌}
use Rattle.lot_cost.specs.declared.lot_key.LotKey.{LotKey}
use Rattle.lot_inv.specs.Inventory.{Held, Position as Place, lots_of, non_zero, units_at}
use Rattle.lot_inv.proofs.LotLemmas.{same_lots}
use Rattle.lot_book.specs.declared.leg.Leg.{Leg}
use Rattle.lot_book.specs.declared.leg.Position.{Position}
use Rattle.lot_book.specs.Change.{ListsOpened, units_after}
use Rattle.lot_book.specs.Facts.{Facts}
use Rattle.lot_book.specs.Leg.{position_cmp, same_position, with_leg, with_legs}
use Rattle.lot_book.specs.OpeningNumber.{opening_with_leg, opening_with_legs, posting_number}
use Rattle.lot_book.proofs.CaseLemmas.{by_bool}
use Rattle.lot_book.proofs.HeldLemmas.{at, get-with_row}
use Rattle.lot_book.proofs.OrderLemmas.{one_position, same_position-turned}
use Rattle.lot_posting.specs.Tally.{is_lot_of}
use Rattle.lot_posting.proofs.TallyLemmas.{not_at}

-- ---- one leg more

-- the numbers after legs and one more are those that it makes of the numbers after the legs
pub opening_with_legs-push : (account commodity : List ℕ) (held : Held) (opening : LotKey → ℕ) (legs : List Leg) (leg : Leg)
    → opening_with_legs account commodity held opening (legs ++ leg ∷ [])
    ≡ opening_with_leg account commodity (with_legs account held legs) (opening_with_legs account commodity held opening legs) leg
opening_with_legs-push account commodity held opening [] leg = refl
opening_with_legs-push account commodity held opening (first ∷ legs) leg =
    opening_with_legs-push account commodity (with_leg account held first) (opening_with_leg account commodity held opening first) legs leg

module _ (account commodity : List ℕ) (key : LotKey) where
  abbrev lot : Position
  lot = at account (commodity, Some key)

  abbrev place : Place
  place = (commodity, Some key)

  -- ---- where no leg is at a lot

  abbrev pub AreElsewhere : List Leg → Type 0
  AreElsewhere legs = AllByRecursion (λ (leg : Leg). same_position lot leg.position ≡ false) legs

  either_false : (a b : Bool) → (a || b) ≡ false → (a ≡ false) × (b ≡ false)
  either_false true b e = cc
  either_false false b e = (refl, e)

  -- so it is where none is at a lot of the commodity
  pub elsewhere : (legs : List Leg) → list_any (λ (leg : Leg). is_lot_of account commodity leg.position) legs ≡ false → AreElsewhere legs
  elsewhere [] none = tt
  elsewhere (leg ∷ legs) none =
      let both = either_false (is_lot_of account commodity leg.position)
      (list_any (λ (leg : Leg). is_lot_of account commodity leg.position) legs) none in
      (not_at account commodity leg.position key both.0, elsewhere legs both.1)

  get-elsewhere_leg : (held : Held) (leg : Leg) → same_position lot leg.position ≡ false
      → get (with_leg account held leg) place ≡ get held place
  get-elsewhere_leg held leg other =
      let units = units_at held (leg.position.commodity, leg.position.lot) +ℤ leg.units in
      get-with_row account held (leg.position, units) place
      ∙ ap (λ b. cond b (non_zero units) (get held place)) other

  -- the legs leave what the lot holds
  pub get-elsewhere : (held : Held) (legs : List Leg) → AreElsewhere legs → get (with_legs account held legs) place ≡ get held place
  get-elsewhere held [] none = refl
  get-elsewhere held (leg ∷ legs) none =
      get-elsewhere (with_leg account held leg) legs none.1 ∙ get-elsewhere_leg held leg none.0

  -- and its opening number
  pub opening-elsewhere : (held : Held) (opening : LotKey → ℕ) (legs : List Leg) → AreElsewhere legs
      → opening_with_legs account commodity held opening legs key ≡ opening key
  opening-elsewhere held opening [] none = refl
  opening-elsewhere held opening (leg ∷ legs) none =
      opening-elsewhere (with_leg account held leg) (opening_with_leg account commodity held opening leg) legs none.1
      ∙ ap (λ b. cond (b && int_eq (units_at held place) (pos 0)) (posting_number leg) (opening key)) none.0

  -- ---- numbers that are the same where the lot holds something

  -- the lot holds something
  abbrev HoldsSome : Held → Type 0
  HoldsSome held = units_at held place ≢ pos 0

  same_after_leg : (held : Held) (f g : LotKey → ℕ) (leg : Leg) → (HoldsSome held → f key ≡ g key)
      → HoldsSome (with_leg account held leg)
      → opening_with_leg account commodity held f leg key ≡ opening_with_leg account commodity held g leg key
  same_after_leg held f g leg same some =
      let here = same_position lot leg.position in
      let none = int_eq (units_at held place) (pos 0) in
      let number = posting_number leg in
      by_bool (here && none)
      (λ opens. ap (λ b. cond b number (f key)) opens ∙ ap (λ b. cond b number (g key)) (sym opens))
      (λ kept.
      ap (λ b. cond b number (f key)) kept ∙ same (held_before kept) ∙ ap (λ b. cond b number (g key)) (sym kept))
    where
      held_before : (same_position lot leg.position && int_eq (units_at held place) (pos 0)) ≡ false → HoldsSome held
      held_before kept zero =
          let other : same_position lot leg.position ≡ false = by_bool (same_position lot leg.position)
          (λ e. let both : (same_position lot leg.position && int_eq (units_at held place) (pos 0)) ≡ true =
          ap (λ b. b && int_eq (units_at held place) (pos 0)) e ∙ ap (λ z. int_eq z (pos 0)) zero in cc)
          (λ e. e) in
          some (ap (λ (found : Option ℤ). unwrap_or found (pos 0)) (get-elsewhere_leg held leg other) ∙ zero)

  -- they are the same behind legs
  pub same_after_legs : (held : Held) (f g : LotKey → ℕ) (legs : List Leg) → (HoldsSome held → f key ≡ g key)
      → HoldsSome (with_legs account held legs)
      → opening_with_legs account commodity held f legs key ≡ opening_with_legs account commodity held g legs key
  same_after_legs held f g [] same some = same some
  same_after_legs held f g (leg ∷ legs) same some =
      same_after_legs (with_leg account held leg) (opening_with_leg account commodity held f leg)
      (opening_with_leg account commodity held g leg) legs (same_after_leg held f g leg same) some

-- the lots are the same where no leg is at one
pub lots-elsewhere : (account commodity : List ℕ) (held : Held) (legs : List Leg)
    → ((key : LotKey) → AreElsewhere account commodity key legs)
    → lots_of (with_legs account held legs) commodity ≡ lots_of held commodity
lots-elsewhere account commodity held legs none =
    same_lots (with_legs account held legs) held commodity (λ key. get-elsewhere account commodity key held legs (none key))

-- ---- what a tally lists of opening numbers

module _ (facts : Facts) (legs : List Leg) (leg : Leg) where
  -- whether the leg opens a lot behind the legs
  abbrev opens : List ℕ → List ℕ → LotKey → Bool
  opens account commodity key =
      same_position (at account (commodity, Some key)) leg.position
      && int_eq (units_at (with_legs account (facts.held account) legs) (commodity, Some key)) (pos 0)

  -- what is listed of a lot once one more number is, or isn't
  abbrev listed_of : Bool → Option ℕ → Option ℕ
  listed_of opened listed = cond opened (Some (posting_number leg)) listed

  by_listed : (opened : Bool) (listed : Option ℕ) (own : ℕ)
      → cond opened (posting_number leg) (unwrap_or listed own) ≡ unwrap_or (listed_of opened listed) own
  by_listed true listed own = refl
  by_listed false listed own = refl

  lists-opened : (old new : BTreeMap Position ℕ) → ListsOpened facts legs old
      → ((account commodity : List ℕ) (key : LotKey) → let lot = at account (commodity, Some key) in
      tree.get position_cmp new lot ≡ listed_of (opens account commodity key) (tree.get position_cmp old lot))
      → ListsOpened facts (legs ++ leg ∷ []) new
  lists-opened old new lists updates account commodity key opening =
      let number = posting_number leg in
      let opened = opens account commodity key in
      let lot = at account (commodity, Some key) in
      ap (λ (f : LotKey → ℕ). f key) (opening_with_legs-push account commodity (facts.held account) opening legs leg)
      ∙ ap (λ n. cond opened number n) (lists account commodity key opening)
      ∙ by_listed opened (tree.get position_cmp old lot) (opening key)
      ∙ ap (λ listed. unwrap_or listed (opening key)) (sym (updates account commodity key))

  -- whether the leg's position holds nothing behind the legs
  abbrev opens_its : Bool
  opens_its = int_eq (units_after facts legs leg.position) (pos 0)

  at_its : (account commodity : List ℕ) (key : LotKey) → same_position (at account (commodity, Some key)) leg.position ≡ true
      → opens account commodity key ≡ opens_its
  at_its account commodity key here =
      ap (λ b. b && int_eq (units_at (with_legs account (facts.held account) legs) (commodity, Some key)) (pos 0)) here
      ∙ ap (λ (p : Position). int_eq (units_after facts legs p) (pos 0)) (one_position (at account (commodity, Some key)) leg.position here)

  apart_from_its : (account commodity : List ℕ) (key : LotKey)
      → same_position (at account (commodity, Some key)) leg.position ≡ false → opens account commodity key ≡ false
  apart_from_its account commodity key other =
      ap (λ b. b && int_eq (units_at (with_legs account (facts.held account) legs) (commodity, Some key)) (pos 0)) other

  -- a leg at a position that holds nothing opens it, so its number is listed there
  pub lists-new : (old new : BTreeMap Position ℕ) → ListsOpened facts legs old → opens_its ≡ true
      → ((q : Position) → tree.get position_cmp new q ≡ listed_of (same_position leg.position q) (tree.get position_cmp old q))
      → ListsOpened facts (legs ++ leg ∷ []) new
  lists-new old new lists none updates = lists-opened old new lists (λ account commodity key.
      let lot = at account (commodity, Some key) in
      updates lot
      ∙ ap (λ b. listed_of b (tree.get position_cmp old lot))
      (same_position-turned leg.position lot
      ∙ by_bool (same_position lot leg.position)
      (λ here. here ∙ sym (at_its account commodity key here ∙ none))
      (λ other. other ∙ sym (apart_from_its account commodity key other))))

  lists-kept : (old : BTreeMap Position ℕ) → ListsOpened facts legs old
      → ((account commodity : List ℕ) (key : LotKey) → opens account commodity key ≡ false)
      → ListsOpened facts (legs ++ leg ∷ []) old
  lists-kept old lists none = lists-opened old old lists (λ account commodity key.
      ap (λ b. listed_of b (tree.get position_cmp old (at account (commodity, Some key)))) (sym (none account commodity key)))

  -- one at a position that holds some opens none
  pub lists-held : (old : BTreeMap Position ℕ) → ListsOpened facts legs old → opens_its ≡ false → ListsOpened facts (legs ++ leg ∷ []) old
  lists-held old lists some = lists-kept old lists (λ account commodity key.
      by_bool (same_position (at account (commodity, Some key)) leg.position)
      (λ here. at_its account commodity key here ∙ some)
      (λ other. apart_from_its account commodity key other))

  -- nor does one of plain units
  pub lists-plain : (old : BTreeMap Position ℕ) → ListsOpened facts legs old → is_some leg.position.lot ≡ false
      → ListsOpened facts (legs ++ leg ∷ []) old
  lists-plain old lists plain = lists-kept old lists (λ account commodity key.
      apart_from_its account commodity key
      (by_bool (same_position (at account (commodity, Some key)) leg.position)
      (λ here.
      let lot : true ≡ is_some leg.position.lot =
      ap (λ (p : Position). is_some p.lot) (one_position (at account (commodity, Some key)) leg.position here) in cc)
      (λ other. other)))

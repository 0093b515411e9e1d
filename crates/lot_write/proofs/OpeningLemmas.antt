-- The opening numbers of a book with one more entry: those that the change of the entry lists, and those of the book before.
use Rattle.std.specs.Prelude.{◌≡◌, ◌≢◌, ℕ, ◌+◌, ◌&&◌, ◌||◌, Bool, true, false, cond, List, [], ◌∷◌, ◌++◌, Option, None, Some, pos}
use Rattle.std.specs.BTreeMap.{get}
use Rattle.std.specs.FinMap as finite
use Rattle.std.specs.List.{list_any}
use Rattle.std.specs.Option.{option_map, option_or, unwrap_or}
use Rattle.std.specs.Ordering.{int_eq}
use Rattle.std.proofs.Common.{refl, sym, ap, ◌∙◌, append_assoc, arith}
use Rattle.std.proofs.lemmas.List.{append-nil}
use Rattle.lot_cost.specs.declared.lot_key.LotKey.{LotKey}
use Rattle.lot_inv.specs.Inventory.{Held, Position as Place, units_at}
use Rattle.lot_command.specs.declared.key.Key.{Key}
use Rattle.lot_book.specs.Change.{ListsOpened}
use Rattle.lot_book.specs.Facts.{Entry, Facts, facts_of, legs_of}
use Rattle.lot_book.specs.Leg.{inventory_of, position_cmp, same_position, sum_at, with_leg}
use Rattle.lot_book.specs.OpeningNumber.{last_to_open, opening_in, opening_number, opening_with_leg, opening_with_legs, posting_number}
use Rattle.lot_book.specs.Openings.{FactsWithOpenings, Openings}
use Rattle.lot_book.specs.declared.change.Change.{Change}
use Rattle.lot_book.specs.declared.leg.Leg.{Leg}
use Rattle.lot_book.specs.declared.leg.Position.{Position}
use Rattle.lot_book.proofs.CaseLemmas.{by_bool}
use Rattle.lot_book.proofs.OrderLemmas.{same_position-itself}
use Rattle.lot_laws.specs.Laws.{lot_at}
use Rattle.lot_laws.proofs.LawHoldings.{holds_sum}
use Rattle.lot_laws.proofs.OpeningLemmas.{not_zero, number_elsewhere, number_is, some_units, where_held}
use Rattle.lot_laws.proofs.StepHeld.{HaveSame, same_with_leg}
use Rattle.lot_laws.proofs.StepOpenings.{numbers_after}
use Rattle.lot_rows.specs.declared.opening.OpeningRow.{OpeningRow}
use Rattle.lot_stored.specs.Rows.{opening_row}
use Rattle.lot_write.proofs.PositionLemmas.{numbered_row}

-- ---- where no leg stands

-- legs of other positions leave a lot its number
pub number_apart : (legs more : List Leg) (q : Position) → list_any (λ (leg : Leg). same_position q leg.position) more ≡ false
    → opening_number (legs ++ more) q ≡ opening_number legs q
number_apart legs [] q none = ap (λ (ls : List Leg). opening_number ls q) (append-nil legs)
number_apart legs (leg ∷ more) q none =
    let parts = neither (same_position q leg.position) (list_any (λ (l : Leg). same_position q l.position) more) none in
    ap (λ (ls : List Leg). opening_number ls q) (sym (append_assoc legs (leg ∷ []) more))
    ∙ number_apart (legs ++ leg ∷ []) more q parts.1
    ∙ number_elsewhere legs leg q (λ is. apart leg is parts.0)
  where
    neither : (a b : Bool) → (a || b) ≡ false → (a ≡ false) × (b ≡ false)
    neither true b e = cc
    neither false b e = (refl, e)

    apart : (leg : Leg) → leg.position ≡ q → same_position q leg.position ≡ false → ⊥
    apart leg is other = let here = ap (same_position q) is ∙ same_position-itself q in cc

-- ---- what further legs make of the number of one lot

module _ (account commodity : List ℕ) (lot : LotKey) where
  abbrev here : Place
  here = (commodity, Some lot)

  abbrev IsHere : Place → Type 0
  IsHere at = at ≡ here

  -- it depends on what the lot holds, and on its number, alone
  same_number : (a b : Held) (f g : LotKey → ℕ) (legs : List Leg) → HaveSame IsHere a b → f lot ≡ g lot
      → opening_with_legs account commodity a f legs lot ≡ opening_with_legs account commodity b g legs lot
  same_number a b f g [] same numbers = numbers
  same_number a b f g (leg ∷ legs) same numbers =
      same_number (with_leg account a leg) (with_leg account b leg)
      (opening_with_leg account commodity a f leg) (opening_with_leg account commodity b g leg) legs
      (same_with_leg IsHere account a b leg same)
      (λ i. cond (same_position (lot_at account commodity lot) leg.position
      && int_eq (unwrap_or (same here refl i) (pos 0)) (pos 0)) (posting_number leg) (numbers i))

-- ---- the numbers of a book, and others of the lots that hold nothing

module _ (entries : List Entry) (number : ℕ) where
  abbrev numbers : Openings
  numbers account commodity lot =
      cond (int_eq (units_at (inventory_of (legs_of entries) account) (commodity, Some lot)) (pos 0)) number
      (opening_in (legs_of entries) account commodity lot)

  numbers_held : (account commodity : List ℕ) (lot : LotKey)
      → units_at (inventory_of (legs_of entries) account) (commodity, Some lot) ≢ pos 0
      → numbers account commodity lot ≡ opening_in (legs_of entries) account commodity lot
  numbers_held account commodity lot some =
      ap (λ b. cond b number (opening_in (legs_of entries) account commodity lot))
      (not_zero (units_at (inventory_of (legs_of entries) account) (commodity, Some lot)) some)

-- ---- what a change lists of a lot

module _ (known : Facts) (entries : List Entry) (key : Key) (change : Change) (account commodity : List ℕ) (lot : LotKey)
    (lists : ListsOpened known change.legs change.openings)
    (same : finite.get (known.held account) (commodity, Some lot) ≡ finite.get (inventory_of (legs_of entries) account) (commodity, Some lot))
    (some : sum_at (legs_of entries ++ change.legs) (lot_at account commodity lot) ≢ pos 0) where
  abbrev q : Position
  q = lot_at account commodity lot

  abbrev all : List Leg
  all = legs_of entries ++ change.legs

  abbrev listed : Option ℕ
  listed = get position_cmp change.openings q

  -- it, or else the number before, is the number over all legs, whatever number a lot has that held nothing
  listed_is : (number : ℕ) → unwrap_or listed (numbers entries number account commodity lot) ≡ opening_in all account commodity lot
  listed_is number =
      let before = numbers entries number account commodity in
      let said : FactsWithOpenings = record { facts = facts_of entries key; opening = numbers entries number } in
      sym (lists account commodity lot before)
      ∙ same_number account commodity lot (known.held account) (inventory_of (legs_of entries) account) before before change.legs
      (λ at is. ap (finite.get (known.held account)) is ∙ same ∙ ap (finite.get (inventory_of (legs_of entries) account)) (sym is)) refl
      ∙ numbers_after said entries key change.legs account commodity refl
      (λ a c l held. numbers_held entries number a c l held) lot
      (λ none. some (sym (holds_sum all q) ∙ none))

  numbered : (legs : List Leg) → sum_at legs q ≢ pos 0 → (number : ℕ) × (opening_number legs q ≡ Some number)
  numbered legs held =
      let has = (where_held legs account commodity lot).0 (λ none. held (sym (holds_sum legs q) ∙ none)) in
      (has.0, number_is legs q has.0 has.1)

  -- a lot that isn't listed was held before
  was_held : listed ≡ None → sum_at (legs_of entries) q ≢ pos 0
  was_held none zero =
      let empty : (number : ℕ) → numbers entries number account commodity lot ≡ number =
      λ number. ap (λ z. cond (int_eq z (pos 0)) number (opening_in (legs_of entries) account commodity lot))
      (holds_sum (legs_of entries) q ∙ zero) in
      let is : (number : ℕ) → number ≡ opening_in all account commodity lot =
      λ number. sym (empty number) ∙ ap (λ o. unwrap_or o (numbers entries number account commodity lot)) (sym none) ∙ listed_is number in
      next_apart 0 (is 0 ∙ sym (is 1))
    where
      next_apart : (n : ℕ) → n ≡ n + 1 → ⊥
      next_apart n e = omega arith

  after : (number : ℕ) × (opening_number all q ≡ Some number)
  after = numbered all some

  -- it is the number after that a lot has which is listed
  listed_some : (number : ℕ) → listed ≡ Some number → Some number ≡ opening_number all q
  listed_some number is =
      ap Some (ap (λ o. unwrap_or o (numbers entries 0 account commodity lot)) (sym is) ∙ listed_is 0
      ∙ ap (λ o. unwrap_or o 0) after.1)
      ∙ sym after.1

  -- one that isn't keeps the number before
  listed_none : listed ≡ None → opening_number (legs_of entries) q ≡ opening_number all q
  listed_none is =
      let held = was_held is in
      let before = numbered (legs_of entries) held in
      before.1
      ∙ ap Some (ap (λ o. unwrap_or o 0) (sym before.1)
      ∙ sym (numbers_held entries 0 account commodity lot (λ zero. held (sym (holds_sum (legs_of entries) q) ∙ zero)))
      ∙ ap (λ o. unwrap_or o (numbers entries 0 account commodity lot)) (sym is) ∙ listed_is 0
      ∙ ap (λ o. unwrap_or o 0) after.1)
      ∙ sym after.1

  -- the number that is listed, or else the one before, is the one after
  pub listed_or_before : option_or listed (opening_number (legs_of entries) q) ≡ opening_number all q
  listed_or_before = by listed refl
    where
      by : (o : Option ℕ) → listed ≡ o → option_or o (opening_number (legs_of entries) q) ≡ opening_number all q
      by (Some number) is = listed_some number is
      by None is = listed_none is

  -- and so is the number that is listed, or else the one after
  pub listed_or_after : option_or listed (opening_number all q) ≡ opening_number all q
  listed_or_after = by listed refl
    where
      by : (o : Option ℕ) → listed ≡ o → option_or o (opening_number all q) ≡ opening_number all q
      by (Some number) is = listed_some number is
      by None is = refl

-- ---- its row

pub or_mapped : {X Y : Type 0} (f : X → Y) (o p : Option X) → option_or (option_map f o) (option_map f p) ≡ option_map f (option_or o p)
or_mapped f None p = refl
or_mapped f (Some x) p = refl

module _ (known : Facts) (entries : List Entry) (key : Key) (change : Change) (account commodity : List ℕ) (lot : LotKey)
    (lists : ListsOpened known change.legs change.openings)
    (same : finite.get (known.held account) (commodity, Some lot) ≡ finite.get (inventory_of (legs_of entries) account) (commodity, Some lot)) where
  abbrev lot_here : Position
  lot_here = lot_at account commodity lot

  abbrev legs_now : List Leg
  legs_now = legs_of entries ++ change.legs

  abbrev row_of : Option ℕ → Option OpeningRow
  row_of number = option_map (opening_row account commodity lot) number

  -- of a lot whose number is so, once it is written
  abbrev row_then : Option ℕ → Option OpeningRow
  row_then had =
      numbered_row account commodity lot (sum_at legs_now lot_here) (get position_cmp change.openings lot_here) (row_of had)

  settled_by : (had : Option ℕ)
      → (sum_at legs_now lot_here ≢ pos 0
      → option_or (get position_cmp change.openings lot_here) had ≡ opening_number legs_now lot_here)
      → row_then had ≡ row_of (opening_number legs_now lot_here)
  settled_by had numbers =
      let listed = get position_cmp change.openings lot_here in
      let number = option_map posting_number (last_to_open lot_here [] legs_now) in
      by_bool (int_eq (sum_at legs_now lot_here) (pos 0))
      (λ zero.
      ap (λ b. cond b None (option_or (row_of listed) (row_of had))) zero ∙ sym (ap (λ b. row_of (cond b None number)) zero))
      (λ some.
      ap (λ b. cond b None (option_or (row_of listed) (row_of had))) some
      ∙ or_mapped (opening_row account commodity lot) listed had
      ∙ ap row_of (numbers (some_units (sum_at legs_now lot_here) some)))

  -- it is that of the number over all legs, and stays it
  pub row_settled : (row_then (opening_number (legs_of entries) lot_here) ≡ row_of (opening_number legs_now lot_here))
      × (row_then (opening_number legs_now lot_here) ≡ row_of (opening_number legs_now lot_here))
  row_settled = (
    settled_by (opening_number (legs_of entries) lot_here)
        (listed_or_before known entries key change account commodity lot lists same),
    settled_by (opening_number legs_now lot_here)
        (listed_or_after known entries key change account commodity lot lists same),
  )

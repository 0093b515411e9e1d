-- The rows of lots, of their opening numbers and of plain units once the position of each leg is written.
use Rattle.std.specs.Prelude.{◌≡◌, ◌⊎◌, ℕ, ◌&&◌, ◌||◌, Bool, true, false, cond, List, [], ◌∷◌, Option, None, Some, ℤ, pos}
use Rattle.std.specs.BTreeMap.{get}
use Rattle.std.specs.Cmp.Lexicographic.{texts_ties}
use Rattle.std.specs.List.{AllByRecursion, list_any}
use Rattle.std.specs.Option.{option_map, option_or}
use Rattle.std.specs.Ordering.{int_eq, is_eq, ordering_then}
use Rattle.std.specs.declared.cmp.Ordering.TheVariants.{Equal}
use Rattle.std.proofs.Common.{refl, sym, ap, ◌∙◌, inl, inr}
use Rattle.std.proofs.Math.Bool.{and-true}
use Rattle.std.proofs.lemmas.Bool.{cases_Bool, true≢false}
use Rattle.lot_base.specs.Text.{same_text, text_cmp}
use Rattle.lot_cost.proofs.OrderLemmas.{eq_then}
use Rattle.lot_inv.specs.Inventory.{non_zero}
use Rattle.lot_cost.specs.declared.lot_key.LotKey.{LotKey}
use Rattle.lot_book.specs.Change.{units_before}
use Rattle.lot_book.specs.Facts.{Facts}
use Rattle.lot_book.specs.Leg.{position_cmp, same_position}
use Rattle.lot_book.specs.declared.change.Change.{Change}
use Rattle.lot_book.specs.declared.leg.Leg.{Leg}
use Rattle.lot_book.specs.declared.leg.Position.{Position}
use Rattle.lot_book.proofs.OrderLemmas.{one_position, same_position-turned}
use Rattle.lot_rows.specs.Lot.{lot_cells}
use Rattle.lot_rows.specs.LotKey.{IsLotKey, IsLotOrPlain}
use Rattle.lot_rows.specs.Opening.{opening_cells}
use Rattle.lot_rows.specs.Plain.{plain_cells}
use Rattle.lot_rows.specs.Tables.{Tables, lot_table, opening_table, plain_table}
use Rattle.lot_rows.specs.declared.lot.LotRow.{LotRow}
use Rattle.lot_rows.specs.declared.opening.OpeningRow.{OpeningRow}
use Rattle.lot_rows.specs.declared.plain.PlainRow.{PlainRow}
use Rattle.sqlite.specs.declared.types.Value.TheVariants.{Int}
use Rattle.lot_stored.specs.Rows.{lot_key, lot_row, opening_row, pair_key, plain_row, row_at}
use Rattle.lot_stored.proofs.KeyLemmas.{at_lot, has_lot, has_pair}
use Rattle.lot_stored.proofs.LookupLemmas.{row-put, row-without}
use Rattle.lot_write.proofs.KeepLemmas.{lot_keeps, opening_keeps, plain_keeps, position_keeps}
use Rattle.lot_write.proofs.WrittenLemmas.{left-written_all, written_all-append}
use Rattle.lot_write.proofs.AsPutLemmas.{written, written_all}
use Rattle.lot_write.specs.Writes.{listed_write, lot_write, number_written, opening_written, plain_write, position_write, positions_written, units_listed}
use Rattle.lot_write.specs.declared.write.Write.TheVariants as write

-- ---- all legs

module _ {X : Type 0} (at : Tables → Option X) (q : Position) (facts : Facts) (change : Change) (IsFine : Position → Type 0)
    (settled : Position → Option X → Option X)
    (step : (p : Position) (tables : Tables) → IsFine p
    → at (written_all (listed_write facts change p) tables) ≡ cond (same_position q p) (settled p (at tables)) (at tables)) where
  abbrev is_here : Leg → Bool
  is_here leg = same_position q leg.position

  -- either what is there is right, or it is as it was and a leg is there
  abbrev IsOnTheWay : Option X → Option X → List Leg → Tables → Type 0
  IsOnTheWay before after legs tables = (at tables ≡ after) ⊎ ((at tables ≡ before) × (list_any is_here legs ≡ true))

  -- what is written of a leg's position makes it right
  abbrev pub Settles : Option X → Option X → Leg → Type 0
  Settles before after leg =
      same_position q leg.position ≡ true → (settled leg.position before ≡ after) × (settled leg.position after ≡ after)

  one_leg : (p : Position) (before after : Option X) (legs : List Leg) (tables : Tables) → settled p before ≡ after
      → settled p after ≡ after → IsOnTheWay before after legs tables → settled p (at tables) ≡ after
  one_leg p before after legs tables first again (inl right) = ap (settled p) right ∙ again
  one_leg p before after legs tables first again (inr old) = ap (settled p) old.0 ∙ first

  next_leg : (leg : Leg) (legs : List Leg) (tables : Tables) (before after : Option X) → IsFine leg.position
      → Settles before after leg → IsOnTheWay before after (leg ∷ legs) tables
      → IsOnTheWay before after legs (written_all (listed_write facts change leg.position) tables)
  next_leg leg legs tables before after fine settles way = by (same_position q leg.position) refl way
    where
      by : (b : Bool) → same_position q leg.position ≡ b → IsOnTheWay before after (leg ∷ legs) tables
          → IsOnTheWay before after legs (written_all (listed_write facts change leg.position) tables)
      by true here either =
          inl (step leg.position tables fine
          ∙ ap (λ b. cond b (settled leg.position (at tables)) (at tables)) here
          ∙ one_leg leg.position before after (leg ∷ legs) tables (settles here).0 (settles here).1 either)
      by false apart (inl right) =
          inl (step leg.position tables fine ∙ ap (λ b. cond b (settled leg.position (at tables)) (at tables)) apart ∙ right)
      by false apart (inr old) =
          inr (
            step leg.position tables fine ∙ ap (λ b. cond b (settled leg.position (at tables)) (at tables)) apart ∙ old.0,
            ap (λ b. b || list_any is_here legs) (sym apart) ∙ old.1,
          )

  pub positions_stand : (legs : List Leg) (tables : Tables) (before after : Option X)
      → AllByRecursion (λ (leg : Leg). IsFine leg.position) legs → AllByRecursion (Settles before after) legs
      → IsOnTheWay before after legs tables
      → at (written_all (positions_written facts change legs) tables) ≡ after
  positions_stand [] tables before after fine settle (inl right) = right
  positions_stand [] tables before after fine settle (inr old) = absurd (true≢false (sym old.1))
  positions_stand (leg ∷ legs) tables before after fine settle way =
      let first = listed_write facts change leg.position in
      ap at (written_all-append first (positions_written facts change legs) tables)
      ∙ positions_stand legs (written_all first tables) before after fine.1 settle.1
      (next_leg leg legs tables before after fine.0 settle.0 way)

-- ---- lots

abbrev pub plain_at : List ℕ → List ℕ → Position
plain_at account commodity = record { account = account; commodity = commodity; lot = None }

-- a lot and plain units are never at one position
lot_or_plain : (p q : Position) (lot : LotKey) → p.lot ≡ Some lot → q.lot ≡ None → same_position p q ≡ false
lot_or_plain p q lot some none =
    elim (cases_Bool (same_position p q)) [
      | inl same ↦
          let nothing : Option LotKey = None in
          let one : Some lot ≡ nothing = sym some ∙ ap (λ (r : Position). r.lot) (one_position p q same) ∙ none in cc
      | inr apart ↦ apart
    ]

-- the row of a lot's position
abbrev row_in : Position → ℤ → Option LotRow
row_in p units = option_map (λ (l : LotKey). lot_row p.account p.commodity l units) p.lot

module _ (account commodity : List ℕ) (lot : LotKey) (good : IsLotKey lot) where
  abbrev lot_there : Tables → Option LotRow
  lot_there = row_at lot_table (lot_key account commodity lot)

  -- a row is put, whether or not there was one
  lot_put : (other what : List ℕ) (there : LotKey) (before units : ℤ) (tables : Tables)
      → written (lot_write other what there before units) tables ≡ written (write.Lot (lot_row other what there units)) tables
  lot_put other what there before units tables =
      elim (int_eq before (pos 0)) as (λ b. written (cond b (write.Lot (lot_row other what there units))
      (write.SetLot (lot_row other what there units))) tables ≡ written (write.Lot (lot_row other what there units)) tables) [
        | true ↦ refl
        | false ↦ refl
      ]

  lot_written : (other what : List ℕ) (there : LotKey) (before units : ℤ) (tables : Tables) → IsLotKey there
      → lot_there (written (position_write other what (Some there) before units) tables)
      ≡ cond (same_position (at_lot account commodity lot) (at_lot other what there)) (option_map (lot_row account commodity lot) (non_zero units)) (lot_there tables)
  lot_written other what there before units tables good_there = by (int_eq units (pos 0))
    where
      row_of : (b : Bool) → same_position (at_lot account commodity lot) (at_lot other what there) ≡ b
          → cond b (Some (lot_row other what there units)) (lot_there tables) ≡ cond b (Some (lot_row account commodity lot units)) (lot_there tables)
      row_of true here =
          let one = one_position (at_lot account commodity lot) (at_lot other what there) here in
          sym (ap (λ (p : Position). row_in p units) one)
      row_of false apart = refl

      by : (zero : Bool)
          → lot_there (written (cond zero (write.NoLot other what there) (lot_write other what there before units)) tables)
          ≡ cond (same_position (at_lot account commodity lot) (at_lot other what there))
          (option_map (lot_row account commodity lot) (cond zero None (Some units))) (lot_there tables)
      by true =
          row-without lot_cells 6 (lot_key account commodity lot) (lot_key other what there) tables.lot
          ∙ ap (λ b. cond b None (lot_there tables)) (has_lot account commodity other what lot there [] good.label good_there.label)
      by false =
          ap lot_there (lot_put other what there before units tables)
          ∙ row-put lot_cells 6 (lot_key account commodity lot) (lot_row other what there units) tables.lot
          ∙ ap (λ b. cond b (Some (lot_row other what there units)) (lot_there tables))
          (has_lot account commodity other what lot there (Int units ∷ []) good.label good_there.label)
          ∙ row_of (same_position (at_lot account commodity lot) (at_lot other what there)) refl

  lot_kept : (other what : List ℕ) (before units : ℤ) (tables : Tables)
      → lot_there (written (position_write other what None before units) tables) ≡ lot_there tables
  lot_kept other what before units tables =
      elim (int_eq units (pos 0)) as (λ b. lot_there (written (cond b (write.NoPlain other what)
      (plain_write other what before units)) tables) ≡ lot_there tables) [
        | true ↦ refl
        | false ↦ plain_keeps lot_there (λ a c u s. refl) other what before units tables
      ]

  -- the row of a lot once units are written at a position
  at_position : (p : Position) (before units : ℤ) (tables : Tables) → IsLotOrPlain p.lot
      → lot_there (written (position_write p.account p.commodity p.lot before units) tables)
      ≡ cond (same_position (at_lot account commodity lot) p) (option_map (lot_row account commodity lot) (non_zero units)) (lot_there tables)
  at_position p before units tables good_there = by p.lot good_there
    where
      by : (there : Option LotKey) → IsLotOrPlain there
          → lot_there (written (position_write p.account p.commodity there before units) tables)
          ≡ cond (same_position (at_lot account commodity lot) (record { account = p.account; commodity = p.commodity; lot = there }))
          (option_map (lot_row account commodity lot) (non_zero units)) (lot_there tables)
      by None tt_there =
          lot_kept p.account p.commodity before units tables
          ∙ ap (λ b. cond b (option_map (lot_row account commodity lot) (non_zero units)) (lot_there tables))
          (sym (lot_or_plain (at_lot account commodity lot) (plain_at p.account p.commodity) lot refl refl))
      by (Some there) good_key = lot_written p.account p.commodity there before units tables good_key

  -- the row of a lot once a position is written
  pub lot_step : (facts : Facts) (change : Change) (p : Position) (tables : Tables) → IsLotOrPlain p.lot
      → lot_there (written_all (listed_write facts change p) tables)
      ≡ cond (same_position (at_lot account commodity lot) p)
      (option_map (lot_row account commodity lot) (non_zero (units_listed facts change p))) (lot_there tables)
  lot_step facts change p tables good_there =
      let before = units_before facts p in
      let units = units_listed facts change p in
      let number = get position_cmp change.openings p in
      left-written_all lot_there (opening_written p.account p.commodity p.lot units number)
      (written (position_write p.account p.commodity p.lot before units) tables)
      (opening_keeps lot_there (λ a c l n s. refl) (λ a c l s. refl) p.account p.commodity p.lot units number)
      ∙ at_position p before units tables good_there

-- ---- plain units

same_plain : (account commodity other what : List ℕ)
    → same_position (plain_at account commodity) (plain_at other what) ≡ (same_text account other && same_text commodity what)
same_plain account commodity other what =
    eq_then (text_cmp account other) (ordering_then (text_cmp commodity what) Equal)
    ∙ (λ i. sym (texts_ties account other) i && last i)
  where
    last : is_eq (ordering_then (text_cmp commodity what) Equal) ≡ same_text commodity what
    last = eq_then (text_cmp commodity what) Equal ∙ and-true (is_eq (text_cmp commodity what)) ∙ sym (texts_ties commodity what)

module _ (account commodity : List ℕ) where
  abbrev plain_there : Tables → Option PlainRow
  plain_there = row_at plain_table (pair_key account commodity)

  -- a row is put, whether or not there was one
  plain_put : (other what : List ℕ) (before units : ℤ) (tables : Tables)
      → written (plain_write other what before units) tables ≡ written (write.Plain (plain_row other what units)) tables
  plain_put other what before units tables =
      elim (int_eq before (pos 0)) as (λ b. written (cond b (write.Plain (plain_row other what units))
      (write.SetPlain (plain_row other what units))) tables ≡ written (write.Plain (plain_row other what units)) tables) [
        | true ↦ refl
        | false ↦ refl
      ]

  plain_written : (other what : List ℕ) (before units : ℤ) (tables : Tables)
      → plain_there (written (position_write other what None before units) tables)
      ≡ cond (same_position (plain_at account commodity) (plain_at other what)) (option_map (plain_row account commodity) (non_zero units)) (plain_there tables)
  plain_written other what before units tables = by (int_eq units (pos 0))
    where
      row_of : (b : Bool) → same_position (plain_at account commodity) (plain_at other what) ≡ b
          → cond b (Some (plain_row other what units)) (plain_there tables) ≡ cond b (Some (plain_row account commodity units)) (plain_there tables)
      row_of true here =
          let one = one_position (plain_at account commodity) (plain_at other what) here in
          sym (ap (λ (p : Position). Some (plain_row p.account p.commodity units)) one)
      row_of false apart = refl

      by : (zero : Bool)
          → plain_there (written (cond zero (write.NoPlain other what) (plain_write other what before units)) tables)
          ≡ cond (same_position (plain_at account commodity) (plain_at other what))
          (option_map (plain_row account commodity) (cond zero None (Some units))) (plain_there tables)
      by true =
          row-without plain_cells 2 (pair_key account commodity) (pair_key other what) tables.plain
          ∙ ap (λ b. cond b None (plain_there tables))
          (has_pair account commodity other what [] ∙ sym (same_plain account commodity other what))
      by false =
          ap plain_there (plain_put other what before units tables)
          ∙ row-put plain_cells 2 (pair_key account commodity) (plain_row other what units) tables.plain
          ∙ ap (λ b. cond b (Some (plain_row other what units)) (plain_there tables))
          (has_pair account commodity other what (Int units ∷ []) ∙ sym (same_plain account commodity other what))
          ∙ row_of (same_position (plain_at account commodity) (plain_at other what)) refl

  plain_kept : (other what : List ℕ) (there : LotKey) (before units : ℤ) (tables : Tables)
      → plain_there (written (position_write other what (Some there) before units) tables) ≡ plain_there tables
  plain_kept other what there before units tables =
      elim (int_eq units (pos 0)) as (λ b. plain_there (written (cond b (write.NoLot other what there)
      (lot_write other what there before units)) tables) ≡ plain_there tables) [
        | true ↦ refl
        | false ↦ lot_keeps plain_there (λ a c l u s. refl) other what there before units tables
      ]

  -- the row of plain units once units are written at a position
  plain_at_position : (p : Position) (before units : ℤ) (tables : Tables)
      → plain_there (written (position_write p.account p.commodity p.lot before units) tables)
      ≡ cond (same_position (plain_at account commodity) p) (option_map (plain_row account commodity) (non_zero units)) (plain_there tables)
  plain_at_position p before units tables = by p.lot
    where
      by : (there : Option LotKey)
          → plain_there (written (position_write p.account p.commodity there before units) tables)
          ≡ cond (same_position (plain_at account commodity) (record { account = p.account; commodity = p.commodity; lot = there }))
          (option_map (plain_row account commodity) (non_zero units)) (plain_there tables)
      by None = plain_written p.account p.commodity before units tables
      by (Some there) =
          plain_kept p.account p.commodity there before units tables
          ∙ ap (λ b. cond b (option_map (plain_row account commodity) (non_zero units)) (plain_there tables))
          (sym (same_position-turned (plain_at account commodity) (at_lot p.account p.commodity there)
          ∙ lot_or_plain (at_lot p.account p.commodity there) (plain_at account commodity) there refl refl))

  -- the row of plain units once a position is written
  pub plain_step : (facts : Facts) (change : Change) (p : Position) (tables : Tables) → Unit {0}
      → plain_there (written_all (listed_write facts change p) tables)
      ≡ cond (same_position (plain_at account commodity) p)
      (option_map (plain_row account commodity) (non_zero (units_listed facts change p))) (plain_there tables)
  plain_step facts change p tables fine =
      let before = units_before facts p in
      let units = units_listed facts change p in
      let number = get position_cmp change.openings p in
      left-written_all plain_there (opening_written p.account p.commodity p.lot units number)
      (written (position_write p.account p.commodity p.lot before units) tables)
      (opening_keeps plain_there (λ a c l n s. refl) (λ a c l s. refl) p.account p.commodity p.lot units number)
      ∙ plain_at_position p before units tables

-- ---- opening numbers

-- the row of the opening number of a lot's position
abbrev number_in : Position → ℕ → Option OpeningRow
number_in p number = option_map (λ (l : LotKey). opening_row p.account p.commodity l number) p.lot

-- what is there once the opening number of a lot with those units is written: where none is listed of it, what was there
abbrev pub numbered_row : List ℕ → List ℕ → LotKey → ℤ → Option ℕ → Option OpeningRow → Option OpeningRow
numbered_row account commodity lot units listed had =
    cond (int_eq units (pos 0)) None (option_or (option_map (opening_row account commodity lot) listed) had)

module _ (account commodity : List ℕ) (lot : LotKey) (good : IsLotKey lot) where
  abbrev opening_there : Tables → Option OpeningRow
  opening_there = row_at opening_table (lot_key account commodity lot)

  number_at : (other what : List ℕ) (there : LotKey) (listed : Option ℕ) (tables : Tables) → IsLotKey there
      → opening_there (written_all (number_written other what there listed) tables)
      ≡ cond (same_position (at_lot account commodity lot) (at_lot other what there))
      (option_or (option_map (opening_row account commodity lot) listed) (opening_there tables)) (opening_there tables)
  number_at other what there None tables good_there =
      elim (same_position (at_lot account commodity lot) (at_lot other what there))
      as (λ b. opening_there tables ≡ cond b (opening_there tables) (opening_there tables)) [
        | true ↦ refl
        | false ↦ refl
      ]
  number_at other what there (Some number) tables good_there =
      row-put opening_cells 6 (lot_key account commodity lot) (opening_row other what there number) tables.opening
      ∙ ap (λ b. cond b (Some (opening_row other what there number)) (opening_there tables))
      (has_lot account commodity other what lot there (Int (pos number) ∷ []) good.label good_there.label)
      ∙ row_of (same_position (at_lot account commodity lot) (at_lot other what there)) refl
    where
      row_of : (b : Bool) → same_position (at_lot account commodity lot) (at_lot other what there) ≡ b
          → cond b (Some (opening_row other what there number)) (opening_there tables)
          ≡ cond b (Some (opening_row account commodity lot number)) (opening_there tables)
      row_of true here = sym (ap (λ (p : Position). number_in p number) (one_position (at_lot account commodity lot) (at_lot other what there) here))
      row_of false apart = refl

  opening_at : (other what : List ℕ) (there : LotKey) (units : ℤ) (listed : Option ℕ) (tables : Tables) → IsLotKey there
      → opening_there (written_all (opening_written other what (Some there) units listed) tables)
      ≡ cond (same_position (at_lot account commodity lot) (at_lot other what there))
      (numbered_row account commodity lot units listed (opening_there tables)) (opening_there tables)
  opening_at other what there units listed tables good_there = by (int_eq units (pos 0))
    where
      by : (zero : Bool)
          → opening_there (written_all (cond zero (write.NoOpening other what there ∷ []) (number_written other what there listed)) tables)
          ≡ cond (same_position (at_lot account commodity lot) (at_lot other what there))
          (cond zero None (option_or (option_map (opening_row account commodity lot) listed) (opening_there tables)))
          (opening_there tables)
      by true =
          row-without opening_cells 6 (lot_key account commodity lot) (lot_key other what there) tables.opening
          ∙ ap (λ b. cond b None (opening_there tables)) (has_lot account commodity other what lot there [] good.label good_there.label)
      by false = number_at other what there listed tables good_there

  -- the row of an opening number once a position is written
  pub opening_step : (facts : Facts) (change : Change) (p : Position) (tables : Tables) → IsLotOrPlain p.lot
      → opening_there (written_all (listed_write facts change p) tables)
      ≡ cond (same_position (at_lot account commodity lot) p)
      (numbered_row account commodity lot (units_listed facts change p) (get position_cmp change.openings p) (opening_there tables)) (opening_there tables)
  opening_step facts change p tables good_there =
      let units = units_listed facts change p in
      let listed = get position_cmp change.openings p in
      by units listed p.lot good_there (written (position_write p.account p.commodity p.lot (units_before facts p) units) tables)
      ∙ ap (λ had. cond (same_position (at_lot account commodity lot) p) (numbered_row account commodity lot units listed had) had)
      (position_keeps opening_there (λ a c u s. refl) (λ a c s. refl) (λ a c l u s. refl) (λ a c l s. refl)
      p.account p.commodity p.lot (units_before facts p) units tables)
    where
      by : (units : ℤ) (listed : Option ℕ) (there : Option LotKey) → IsLotOrPlain there → (now : Tables)
          → opening_there (written_all (opening_written p.account p.commodity there units listed) now)
          ≡ cond (same_position (at_lot account commodity lot) (record { account = p.account; commodity = p.commodity; lot = there }))
          (numbered_row account commodity lot units listed (opening_there now)) (opening_there now)
      by units listed None tt_there now =
          ap (λ b. cond b (numbered_row account commodity lot units listed (opening_there now)) (opening_there now))
          (sym (lot_or_plain (at_lot account commodity lot) (plain_at p.account p.commodity) lot refl refl))
      by units listed (Some there) good_key now = opening_at p.account p.commodity there units listed now good_key

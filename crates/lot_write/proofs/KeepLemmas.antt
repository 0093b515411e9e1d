-- What the writes of a command leave as it was, and what each of its parts makes of a table.
use Rattle.std.specs.Prelude.{◌≡◌, ℕ, true, false, cond, List, [], ◌∷◌, Option, None, Some, ℤ, pos}
use Rattle.std.specs.BTreeMap.{get}
use Rattle.std.specs.List.{AllByRecursion}
use Rattle.std.specs.Ordering.{int_eq}
use Rattle.std.proofs.Common.{refl, ap, ◌∙◌}
use Rattle.sqlite_keyed.proofs.ListLemmas.{all-append}
use Rattle.lot_cost.specs.declared.lot_key.LotKey.{LotKey}
use Rattle.lot_book.specs.Change.{units_before}
use Rattle.lot_book.specs.Facts.{Facts}
use Rattle.lot_book.specs.Leg.{position_cmp}
use Rattle.lot_book.specs.Sale.{SaleParts}
use Rattle.lot_book.specs.declared.change.Change.{Change}
use Rattle.lot_book.specs.declared.change.Pair.{Pair}
use Rattle.lot_book.specs.declared.leg.Leg.{Leg}
use Rattle.lot_book.specs.declared.leg.Position.{Position}
use Rattle.lot_rows.specs.Tables.{Tables}
use Rattle.lot_stored.specs.Rows.{head_row, leg_row, lot_row, opening_row, plain_row, sale_row}
use Rattle.lot_write.proofs.WrittenLemmas.{left-written_all, written_all-append}
use Rattle.lot_write.proofs.AsPutLemmas.{written, written_all}
use Rattle.lot_write.specs.Writes.{head_written, heads_written, legs_written, listed_write, lot_write, number_written, opening_written, plain_write, position_write, positions_written, sales_written, units_listed}
use Rattle.lot_write.specs.declared.write.Write.{Write}
use Rattle.lot_write.specs.declared.write.Write.TheVariants as write

-- what is said of a table, as its rows are, a write leaves as it was
abbrev pub Keeps : {A : Type 0} → (Tables → A) → Write → Type 0
Keeps rows one = (tables : Tables) → rows (written one tables) ≡ rows tables

module _ {A : Type 0} (rows : Tables → A) where
  pub legs_keep : ((leg : Leg) → Keeps rows (write.Leg (leg_row leg))) → (legs : List Leg)
      → AllByRecursion (Keeps rows) (legs_written legs)
  legs_keep keeps [] = tt
  legs_keep keeps (leg ∷ legs) = (keeps leg, legs_keep keeps legs)

  pub sales_keep : ((sold : ℕ × (ℕ × SaleParts)) → Keeps rows (write.Sale (sale_row sold))) → (number : ℕ)
      (sales : List (ℕ × SaleParts)) → AllByRecursion (Keeps rows) (sales_written number sales)
  sales_keep keeps number [] = tt
  sales_keep keeps number (sale ∷ sales) = (keeps (number, sale), sales_keep keeps number sales)

  head_keeps : ((account commodity : List ℕ) (day : ℤ) → Keeps rows (write.Head (head_row account commodity day)))
      → (before : Option ℤ) (account commodity : List ℕ) (day : ℤ)
      → AllByRecursion (Keeps rows) (head_written before account commodity day)
  head_keeps keeps None account commodity day = (keeps account commodity day, tt)
  head_keeps keeps (Some before) account commodity day =
      elim (int_eq before day) as (λ b. AllByRecursion (Keeps rows) (cond b [] (write.SetHead (head_row account commodity day) ∷ []))) [
        | true ↦ tt
        | false ↦ (keeps account commodity day, tt)
      ]

  pub heads_keep : ((account commodity : List ℕ) (day : ℤ) → Keeps rows (write.Head (head_row account commodity day)))
      → (facts : Facts) (heads : List (Pair × ℤ)) → AllByRecursion (Keeps rows) (heads_written facts heads)
  heads_keep keeps facts [] = tt
  heads_keep keeps facts (head ∷ heads) =
      let before = facts.latest_at_cost head.0.account head.0.commodity in
      all-append (Keeps rows) (head_written before head.0.account head.0.commodity head.1) (heads_written facts heads)
      (head_keeps keeps before head.0.account head.0.commodity head.1) (heads_keep keeps facts heads)

  pub plain_keeps : ((account commodity : List ℕ) (units : ℤ) → Keeps rows (write.Plain (plain_row account commodity units)))
      → (account commodity : List ℕ) (before units : ℤ) → Keeps rows (plain_write account commodity before units)
  plain_keeps plain account commodity before units =
      elim (int_eq before (pos 0)) as (λ b. Keeps rows (cond b (write.Plain (plain_row account commodity units))
      (write.SetPlain (plain_row account commodity units)))) [
        | true ↦ plain account commodity units
        | false ↦ plain account commodity units
      ]

  pub lot_keeps : ((account commodity : List ℕ) (lot : LotKey) (units : ℤ) → Keeps rows (write.Lot (lot_row account commodity lot units)))
      → (account commodity : List ℕ) (lot : LotKey) (before units : ℤ) → Keeps rows (lot_write account commodity lot before units)
  lot_keeps at_lot account commodity lot before units =
      elim (int_eq before (pos 0)) as (λ b. Keeps rows (cond b (write.Lot (lot_row account commodity lot units))
      (write.SetLot (lot_row account commodity lot units)))) [
        | true ↦ at_lot account commodity lot units
        | false ↦ at_lot account commodity lot units
      ]

  pub position_keeps : ((account commodity : List ℕ) (units : ℤ) → Keeps rows (write.Plain (plain_row account commodity units)))
      → ((account commodity : List ℕ) → Keeps rows (write.NoPlain account commodity))
      → ((account commodity : List ℕ) (lot : LotKey) (units : ℤ) → Keeps rows (write.Lot (lot_row account commodity lot units)))
      → ((account commodity : List ℕ) (lot : LotKey) → Keeps rows (write.NoLot account commodity lot))
      → (account commodity : List ℕ) (lot : Option LotKey) (before units : ℤ)
      → Keeps rows (position_write account commodity lot before units)
  position_keeps plain no_plain at_lot no_lot account commodity None before units =
      elim (int_eq units (pos 0)) as (λ b. Keeps rows (cond b (write.NoPlain account commodity)
      (plain_write account commodity before units))) [
        | true ↦ no_plain account commodity
        | false ↦ plain_keeps plain account commodity before units
      ]
  position_keeps plain no_plain at_lot no_lot account commodity (Some lot) before units =
      elim (int_eq units (pos 0)) as (λ b. Keeps rows (cond b (write.NoLot account commodity lot)
      (lot_write account commodity lot before units))) [
        | true ↦ no_lot account commodity lot
        | false ↦ lot_keeps at_lot account commodity lot before units
      ]

  pub opening_keeps : ((account commodity : List ℕ) (lot : LotKey) (number : ℕ)
      → Keeps rows (write.Opening (opening_row account commodity lot number)))
      → ((account commodity : List ℕ) (lot : LotKey) → Keeps rows (write.NoOpening account commodity lot))
      → (account commodity : List ℕ) (lot : Option LotKey) (units : ℤ) (listed : Option ℕ)
      → AllByRecursion (Keeps rows) (opening_written account commodity lot units listed)
  opening_keeps opening no_opening account commodity None units listed = tt
  opening_keeps opening no_opening account commodity (Some lot) units listed =
      elim (int_eq units (pos 0)) as (λ b. AllByRecursion (Keeps rows) (cond b
      (write.NoOpening account commodity lot ∷ []) (number_written account commodity lot listed))) [
        | true ↦ (no_opening account commodity lot, tt)
        | false ↦ number_keeps listed
      ]
    where
      number_keeps : (number : Option ℕ) → AllByRecursion (Keeps rows) (number_written account commodity lot number)
      number_keeps None = tt
      number_keeps (Some number) = (opening account commodity lot number, tt)

  pub listed_keeps : (facts : Facts) (change : Change)
      → ((account commodity : List ℕ) (units : ℤ) → Keeps rows (write.Plain (plain_row account commodity units)))
      → ((account commodity : List ℕ) → Keeps rows (write.NoPlain account commodity))
      → ((account commodity : List ℕ) (lot : LotKey) (units : ℤ) → Keeps rows (write.Lot (lot_row account commodity lot units)))
      → ((account commodity : List ℕ) (lot : LotKey) → Keeps rows (write.NoLot account commodity lot))
      → ((account commodity : List ℕ) (lot : LotKey) (number : ℕ)
      → Keeps rows (write.Opening (opening_row account commodity lot number)))
      → ((account commodity : List ℕ) (lot : LotKey) → Keeps rows (write.NoOpening account commodity lot))
      → (p : Position) → AllByRecursion (Keeps rows) (listed_write facts change p)
  listed_keeps facts change plain no_plain at_lot no_lot opening no_opening p =
      let units = units_listed facts change p in (
        position_keeps plain no_plain at_lot no_lot p.account p.commodity p.lot (units_before facts p) units,
        opening_keeps opening no_opening p.account p.commodity p.lot units (get position_cmp change.openings p),
      )

  pub positions_keep : (facts : Facts) (change : Change)
      → ((p : Position) → AllByRecursion (Keeps rows) (listed_write facts change p)) → (legs : List Leg) (tables : Tables)
      → rows (written_all (positions_written facts change legs) tables) ≡ rows tables
  positions_keep facts change keeps [] tables = refl
  positions_keep facts change keeps (leg ∷ legs) tables =
      let first = listed_write facts change leg.position in
      ap rows (written_all-append first (positions_written facts change legs) tables)
      ∙ positions_keep facts change keeps legs (written_all first tables)
      ∙ left-written_all rows first tables (keeps leg.position)

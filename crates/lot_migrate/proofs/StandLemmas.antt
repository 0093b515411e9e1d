-- Tables of edition 1 that stand for a book are, once migrated, those of edition 2 for the same book.
use Rattle.std.specs.Prelude.{◌≡◌, ℕ, List, [], ◌∷◌, ◌++◌, length, map, All, IsSome}
use Rattle.std.specs.Option.{unwrap_or}
use Rattle.std.proofs.Common.{sym, ap, subst, ◌∙◌, append_assoc, arith}
use Rattle.std.proofs.lemmas.List.{map-append}
use Rattle.lot_num.specs.Amount.{IsUnits}
use Rattle.lot_book.specs.Edition.{After, NotYet}
use Rattle.lot_book.specs.Facts.{Entry, legs_of}
use Rattle.lot_book.specs.Leg.{sum_at}
use Rattle.lot_book.specs.OpeningNumber.{IsNumbered}
use Rattle.lot_book.specs.Sale.{SaleParts}
use Rattle.lot_book.specs.declared.leg.Leg.{Leg}
use Rattle.lot_book.specs.declared.leg.Position.{Position}
use Rattle.lot_rows.specs.Entry.{greatest_number}
use Rattle.lot_rows.specs.Tables.{Tables}
use Rattle.lot_rows.specs.declared.entry.EntryRow.{EntryRow}
use Rattle.lot_rows.specs.declared.leg.LegRow.{LegRow}
use Rattle.lot_stored.specs.Kept.{SalesOf}
use Rattle.lot_stored.specs.Rows.{migration_row, sale_row}
use Rattle.lot_stored.specs.StandFor.{StandFor}
use Rattle.lot_stored.proofs.KeptLemmas.{greatest_counts}
use Rattle.lot_migrate.specs.LotOpenings.{LeavesRange, ListsOpenings}
use Rattle.lot_migrate.specs.declared.opening_numbers.LotOpening.{LotOpening}
use Rattle.lot_migrate.specs.First.{StandForFirst}
use Rattle.lot_migrate.specs.Rows.{leg_of, legs_in, migrated, row_of_opening}
use Rattle.lot_migrate.proofs.LegLemmas.{legs_are_numbered, lot_legs_in_table, lots_stay_in_range}
use Rattle.lot_migrate.proofs.LotLegLemmas.{same_openings}
use Rattle.lot_migrate.proofs.OpeningLemmas.{openings_in_table}
use Rattle.lot_migrate.proofs.SaleLemmas.{sales_up_to_place}

-- ---- the tables of edition 2

-- tables that stand for a book with that place of migration
abbrev pub StandsAt : ℕ → Tables → List Entry → Type 0
StandsAt place tables entries = (s : StandFor tables entries) × (s.place ≡ place)

module _ (tables : Tables) (entries : List Entry) (first : StandForFirst tables entries) where
  pub stands_migrated : (rows : List LotOpening) → ListsOpenings (legs_of entries) rows
      → StandsAt (length entries) (migrated tables (map row_of_opening rows) (length entries)) entries
  stands_migrated rows lists =
      let later = first.later in
      let stands = first.stands in
      let opening = openings_in_table later entries stands rows lists in
      let migration = stands.migration ∙ ap (λ place. migration_row place ∷ []) first.place in
      let same : migrated tables (map row_of_opening rows) (length entries) ≡ later =
      λ i. record (first.same i) {
        book = sym stands.book i;
        opening = sym opening i;
        migration = sym migration i;
      } in
      subst (λ (t : Tables). StandsAt (length entries) t entries) (sym same) (stands, first.place)

  -- ---- what migration reads of them

  -- the legs are in both the same
  same_legs : legs_in tables ≡ legs_in first.later
  same_legs = ap legs_in first.same

  pub first_legs_are_numbered : All IsNumbered (legs_in tables)
  first_legs_are_numbered = subst (All IsNumbered) (sym same_legs) (legs_are_numbered first.later entries first.stands)

  pub first_lots_stay_in_range : (done more : List Leg) → legs_in tables ≡ done ++ more → (lot : Position) → IsSome lot.lot
      → IsUnits (sum_at done lot)
  first_lots_stay_in_range done more split =
      lots_stay_in_range first.later entries first.stands done more (sym same_legs ∙ split)

  -- what is opened by the legs of the table is what those of the book open
  pub lists_of_table : (rows : List LotOpening) → ListsOpenings (legs_in tables) rows → ListsOpenings (legs_of entries) rows
  lists_of_table rows lists =
      same_openings (legs_in first.later) (legs_of entries) rows (lot_legs_in_table first.later entries first.stands)
      (subst (λ (legs : List Leg). ListsOpenings legs rows) same_legs lists)

  -- so no leg of the table takes a lot out of range
  pub no_leg_leaves_range : (done more : List Leg) (leg : Leg) → legs_in tables ≡ done ++ leg ∷ more → LeavesRange done leg → ⊥
  no_leg_leaves_range done more leg split leaves =
      leaves.1 (first_lots_stay_in_range (done ++ leg ∷ []) more (split ∙ sym (append_assoc done (leg ∷ []) more)) leg.position leaves.0)

  pub first_entries_counted : unwrap_or (greatest_number tables.entry) 0 ≡ length entries
  first_entries_counted =
      ap (λ (t : Tables). unwrap_or (greatest_number t.entry) 0) first.same
      ∙ ap (λ (rows : List EntryRow). unwrap_or (greatest_number rows) 0) first.stands.entry
      ∙ greatest_counts entries

  -- the table of sales has those by edition 1
  pub first_sales : (sales : List (ℕ × (ℕ × SaleParts))) × SalesOf NotYet entries sales × (tables.sale ≡ map sale_row sales)
  first_sales =
      let sales = first.stands.sales in
      let by_place = subst (λ (place : ℕ). SalesOf (After place) entries sales) first.place first.stands.sold in (
        sales,
        (sales_up_to_place (length entries) entries sales (omega arith)).1 by_place,
        ap (λ (t : Tables). t.sale) first.same ∙ first.stands.sale,
      )

-- rows that are read, and those that aren't yet, as legs
pub legs_split : (tables : Tables) (done more : List LegRow) → tables.leg ≡ done ++ more → legs_in tables ≡ map leg_of done ++ map leg_of more
legs_split tables done more split = ap (map leg_of) split ∙ map-append leg_of done more

-- The table of opening numbers: it has the rows of the openings of the book's legs, in their order; and rows that are put in
-- that order into a table without rows.
use Rattle.std.specs.Prelude.{◌≡◌, List, [], ◌∷◌, ◌++◌, map, Some, pos}
use Rattle.std.specs.List.{AllByRecursion}
use Rattle.std.specs.List.Sorted.{IsStrictlySortedBy}
use Rattle.std.specs.declared.cmp.Ordering.TheVariants.{Less}
use Rattle.std.proofs.Common.{refl, sym, ap, subst, ◌∙◌}
use Rattle.std.proofs.lemmas.List.{map-append}
use Rattle.std.proofs.lemmas.List.Elements.{recursion_from_All}
use Rattle.sqlite.specs.declared.types.Value.TheVariants.{Int}
use Rattle.sqlite_keyed.proofs.ListLemmas.{all_map, all_unmap}
use Rattle.sqlite_rules.specs.Lists.{Has}
use Rattle.sqlite_rules.proofs.ListLemmas.{all_from, all_has, has_contained}
use Rattle.sqlite_rules.proofs.ProbeLemmas.{has_mapped, mapped_has}
use Rattle.lot_book.specs.Facts.{Entry, legs_of}
use Rattle.lot_book.specs.Leg.{position_cmp}
use Rattle.lot_book.specs.OpeningNumber.{HasOpeningNumber}
use Rattle.lot_book.specs.declared.leg.Position.{Position}
use Rattle.lot_laws.specs.Laws.{lot_at}
use Rattle.lot_laws.proofs.OpeningLemmas.{number_has, number_is, one_number}
use Rattle.lot_table.specs.Rows.{put_in}
use Rattle.lot_rows.specs.Opening.{IsOpeningRow, opening_cells}
use Rattle.lot_rows.specs.Tables.{Tables}
use Rattle.lot_rows.specs.declared.opening.OpeningRow.{OpeningRow}
use Rattle.lot_stored.specs.StandFor.{StandFor}
use Rattle.lot_stored.proofs.HeldLemmas.{opening_there, opening_true}
use Rattle.lot_stored.proofs.KeyLemmas.{lot_rows_order}
use Rattle.lot_stored.proofs.LookupLemmas.{put_in-last}
use Rattle.lot_stored.proofs.OneTablesLemmas.{same_list}
use Rattle.lot_stored.proofs.OrderLemmas.{IsRising, row_order, row_order-total}
use Rattle.lot_migrate.specs.LotOpenings.{ListsOpenings, lot_of}
use Rattle.lot_migrate.specs.declared.opening_numbers.LotOpening.{LotOpening}
use Rattle.lot_migrate.specs.Rows.{row_of_opening}

-- ---- the order

-- rows of lots that a book can have are in the order of the lots
pub rows_rise : (rows : List LotOpening) → AllByRecursion (λ (row : LotOpening). IsOpeningRow (row_of_opening row)) rows
    → IsStrictlySortedBy position_cmp (map lot_of rows) → IsRising opening_cells 6 (map row_of_opening rows)
unfolding IsStrictlySortedBy
rows_rise [] good up = tt
rows_rise (row ∷ rows) good up = (
  all_map (λ (other : OpeningRow). row_order opening_cells 6 (row_of_opening row) other ≡ Less) row_of_opening rows
      (all_from (λ (other : LotOpening). row_order opening_cells 6 (row_of_opening row) (row_of_opening other) ≡ Less) rows
      (λ other has.
      lot_rows_order row.account row.commodity other.account other.commodity row.lot other.lot (Int (pos row.opening) ∷ [])
      (Int (pos other.opening) ∷ []) good.0.lot.label
      (all_has (λ (r : LotOpening). IsOpeningRow (row_of_opening r)) rows other good.1 has).lot.label
      ∙ all_has (λ (r : LotOpening). position_cmp (lot_of row) (lot_of r) ≡ Less) rows other
      (all_unmap (λ (p : Position). position_cmp (lot_of row) p ≡ Less) lot_of rows up.0) has)),
  rows_rise rows good.1 up.1,
)

-- ---- the table

module _ (tables : Tables) (entries : List Entry) (stand : StandFor tables entries) (rows : List LotOpening)
    (lists : ListsOpenings (legs_of entries) rows) where
  numbers : AllByRecursion (λ (row : LotOpening). HasOpeningNumber (legs_of entries) (lot_of row) row.opening) rows
  numbers = recursion_from_All (λ (row : LotOpening). HasOpeningNumber (legs_of entries) (lot_of row) row.opening) rows lists.numbers

  number_of : (row : LotOpening) → Has rows row → HasOpeningNumber (legs_of entries) (lot_of row) row.opening
  number_of row has = all_has (λ (r : LotOpening). HasOpeningNumber (legs_of entries) (lot_of r) r.opening) rows row numbers has

  -- each opening has its row in the table
  pub opening_in_table : (row : LotOpening) → Has rows row → Has tables.opening (row_of_opening row)
  opening_in_table row has =
      opening_there tables entries stand row.account row.commodity row.lot row.opening
      (number_is (legs_of entries) (lot_of row) row.opening (number_of row has))

  table_good : AllByRecursion IsOpeningRow tables.opening
  table_good = recursion_from_All IsOpeningRow tables.opening stand.good.opening

  -- so it is one that a book can have
  pub openings_are_good : AllByRecursion (λ (row : LotOpening). IsOpeningRow (row_of_opening row)) rows
  openings_are_good =
      all_from (λ (row : LotOpening). IsOpeningRow (row_of_opening row)) rows
      (λ row has. all_has IsOpeningRow tables.opening (row_of_opening row) table_good (opening_in_table row has))

  pub openings_rise : IsRising opening_cells 6 (map row_of_opening rows)
  openings_rise = rows_rise rows openings_are_good lists.in_order

  -- each row of the table is that of an opening
  row_is_listed : (row : OpeningRow) → Has tables.opening row → Has (map row_of_opening rows) row
  row_is_listed row has =
      let lot = lot_at row.account row.commodity row.lot in
      let is = opening_true tables entries stand row (all_has IsOpeningRow tables.opening row table_good has) has in
      let number : HasOpeningNumber (legs_of entries) lot row.opening = number_has (legs_of entries) lot row.opening is in
      let there = lists.every_lot lot refl number.last.some_left in
      let found = has_mapped lot_of rows lot (has_contained (map lot_of rows) lot there) in
      let same : row.opening ≡ found.0.opening =
      one_number (legs_of entries) lot row.opening found.0.opening number
      (subst (λ (p : Position). HasOpeningNumber (legs_of entries) p found.0.opening) (sym found.2) (number_of found.0 found.1)) in
      let one : row ≡ row_of_opening found.0 = whole row found.0 found.2 same in
      subst (Has (map row_of_opening rows)) (sym one) (mapped_has row_of_opening rows found.0 found.1)
    where
      whole : (row : OpeningRow) (it : LotOpening) → lot_at row.account row.commodity row.lot ≡ lot_of it → row.opening ≡ it.opening
          → row ≡ row_of_opening it
      whole row it at number =
          let lot : row.lot ≡ it.lot = let some : Some row.lot ≡ Some it.lot = ap (λ (p : Position). p.lot) at in cc in
          λ i. record { account = (at i).account; commodity = (at i).commodity; lot = lot i; opening = number i }

  pub openings_in_table : tables.opening ≡ map row_of_opening rows
  openings_in_table =
      same_list (row_order opening_cells 6) (row_order-total opening_cells 6) tables.opening (map row_of_opening rows)
      stand.ordered.opening openings_rise row_is_listed
      (λ row has.
      let found = has_mapped row_of_opening rows row has in
      subst (Has tables.opening) (sym found.2) (opening_in_table found.0 found.1))

-- ---- rows that are put

-- the next of rows in the order of their keys comes behind those that were put before it
pub put_next : (done : List OpeningRow) (row : OpeningRow) (more : List OpeningRow) → IsRising opening_cells 6 (done ++ row ∷ more)
    → put_in opening_cells 6 row done ≡ done ++ row ∷ []
put_next done row more up = put_in-last opening_cells 6 row done (below done up)
  where
    last : (xs : List OpeningRow) (x : OpeningRow) → AllByRecursion (λ y. row_order opening_cells 6 x y ≡ Less) (xs ++ row ∷ more)
        → row_order opening_cells 6 x row ≡ Less
    last [] x all = all.0
    last (y ∷ xs) x all = last xs x all.1

    below : (xs : List OpeningRow) → IsRising opening_cells 6 (xs ++ row ∷ more)
        → AllByRecursion (λ x. row_order opening_cells 6 x row ≡ Less) xs
    below [] up = tt
    below (x ∷ xs) up = (last xs x up.0, below xs up.1)

-- the same of the rows of openings
pub put_next_opening : (tables : Tables) (entries : List Entry) → StandFor tables entries → (done more : List LotOpening) (row : LotOpening)
    → ListsOpenings (legs_of entries) (done ++ row ∷ more)
    → put_in opening_cells 6 (row_of_opening row) (map row_of_opening done) ≡ map row_of_opening (done ++ row ∷ [])
put_next_opening tables entries stand done more row lists =
    put_next (map row_of_opening done) (row_of_opening row) (map row_of_opening more)
    (subst (IsRising opening_cells 6) (map-append row_of_opening done (row ∷ more))
    (openings_rise tables entries stand (done ++ row ∷ more) lists))
    ∙ sym (map-append row_of_opening done (row ∷ []))

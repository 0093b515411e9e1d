-- The rows of an account and a commodity in the tables of lots and of opening numbers: the same lots in the same order.
use Rattle.std.specs.Prelude.{◌≡◌, ℕ, true, List, [], ◌∷◌, drop, map, filter, pos}
use Rattle.std.specs.List.{AllByRecursion}
use Rattle.std.specs.Cmp.{IsTotalOrder}
use Rattle.std.specs.declared.cmp.Ordering.{Ordering}
use Rattle.std.specs.declared.cmp.Ordering.TheVariants.{Less}
use Rattle.std.proofs.Common.{refl, sym, ap, subst, ◌∙◌}
use Rattle.std.proofs.lemmas.Bool.{and_parts}
use Rattle.std.proofs.lemmas.Cmp.{on_total}
use Rattle.std.proofs.lemmas.List.Elements.{recursion_from_All}
use Rattle.sqlite.specs.Order.{Row}
use Rattle.sqlite.specs.Tree.{IsAscending}
use Rattle.sqlite.specs.declared.types.Value.TheVariants.{Int}
use Rattle.sqlite_keyed.proofs.ListLemmas.{ascending-filter}
use Rattle.sqlite_rules.specs.Lists.{Has}
use Rattle.sqlite_rules.proofs.ListLemmas.{all_from, all_has, has_filtered, has_kept}
use Rattle.lot_base.specs.Text.{same_text}
use Rattle.lot_base.proofs.TextLemmas.{one_text}
use Rattle.lot_cost.specs.declared.lot_key.LotKey.{LotKey}
use Rattle.lot_book.specs.Facts.{Entry}
use Rattle.lot_table.specs.Rows.{has_key, key_order, with_key}
use Rattle.lot_table.proofs.KeyLemmas.{has_mapped, mapped_has}
use Rattle.lot_rows.specs.Lot.{IsLotRow, lot_cells}
use Rattle.lot_rows.specs.LotKey.{lot_columns}
use Rattle.lot_rows.specs.Opening.{IsOpeningRow, opening_cells}
use Rattle.lot_rows.specs.Tables.{Tables}
use Rattle.lot_rows.specs.declared.lot.LotRow.{LotRow}
use Rattle.lot_rows.specs.declared.opening.OpeningRow.{OpeningRow}
use Rattle.lot_stored.specs.Rows.{lot_key, lot_row, opening_row, pair_key}
use Rattle.lot_stored.specs.StandFor.{StandFor}
use Rattle.lot_stored.proofs.HeldLemmas.{lot_has_opening, opening_has_lot}
use Rattle.lot_stored.proofs.KeyLemmas.{has_pair}
use Rattle.lot_stored.proofs.OneTablesLemmas.{same_list}
use Rattle.lot_stored.proofs.OrderLemmas.{IsRising, key_order-total, row_order}

-- ---- rows of a pair

-- the rows of lots, and of opening numbers, of an account and a commodity
abbrev pub lots_at : Tables → List ℕ → List ℕ → List LotRow
lots_at tables account commodity = with_key lot_cells 2 (pair_key account commodity) tables.lot

abbrev pub openings_at : Tables → List ℕ → List ℕ → List OpeningRow
openings_at tables account commodity = with_key opening_cells 2 (pair_key account commodity) tables.opening

-- ---- the order of their lots

module _ (account commodity : List ℕ) where
  -- the order of lots there, by their keys
  abbrev lot_order : LotKey → LotKey → Ordering
  lot_order a b = key_order 6 (lot_key account commodity a) (lot_key account commodity b)

  lot_order-total : IsTotalOrder lot_order
  lot_order-total = on_total (lot_key account commodity) (key_order-total 6)

  abbrev LotsRise : List LotKey → Type 0
  LotsRise = IsAscending (λ a b. lot_order a b ≡ Less)

  -- rows that each begin with the key of a lot
  module _ {X : Type 0} (encode : X → Row) (account_of commodity_of : X → List ℕ) (lot_of : X → LotKey)
      (begins : (x : X) → (rest : Row) × (encode x ≡ lot_columns (account_of x) (commodity_of x) (lot_of x) rest)) where
    -- a row is of a lot of this account and commodity
    abbrev IsThere : X → Type 0
    IsThere x = (rest : Row) × (encode x ≡ lot_columns account commodity (lot_of x) rest)

    is_there : (x : X) → has_key 2 (pair_key account commodity) (encode x) ≡ true → IsThere x
    is_there x own =
        let rest = (begins x).0 in
        let behind = drop 2 (lot_columns (account_of x) (commodity_of x) (lot_of x) rest) in
        let same = and_parts (same_text account (account_of x)) (same_text commodity (commodity_of x))
        (sym (has_pair account commodity (account_of x) (commodity_of x) behind)
        ∙ ap (has_key 2 (pair_key account commodity)) (sym (begins x).1)
        ∙ own) in
        let accounts = sym (one_text account (account_of x) same.0) in
        let commodities = sym (one_text commodity (commodity_of x) same.1) in
        (rest, (begins x).1 ∙ (λ i. lot_columns (accounts i) (commodities i) (lot_of x) rest))

    below_all : (a : X) → IsThere a → (xs : List X) → AllByRecursion IsThere xs
        → AllByRecursion (λ b. row_order encode 6 a b ≡ Less) xs
        → AllByRecursion (λ lot. lot_order (lot_of a) lot ≡ Less) (map lot_of xs)
    below_all a here [] there less = tt
    below_all a here (b ∷ xs) there less =
        ((λ i. key_order 6 (sym here.1 i) (sym there.0.1 i)) ∙ less.0, below_all a here xs there.1 less.1)

    rise_there : (xs : List X) → AllByRecursion IsThere xs → IsRising encode 6 xs → LotsRise (map lot_of xs)
    rise_there [] there up = tt
    rise_there (x ∷ xs) there up = (below_all x there.0 xs there.1 up.0, rise_there xs there.1 up.1)

    -- of rows that rise by their keys, those of the pair have lots that do
    lots_rise : (xs : List X) → IsRising encode 6 xs → LotsRise (map lot_of (with_key encode 2 (pair_key account commodity) xs))
    lots_rise xs up =
        let own = λ (x : X). has_key 2 (pair_key account commodity) (encode x) in
        rise_there (filter own xs) (all_from IsThere (filter own xs) (λ x has. is_there x (has_filtered own xs x has).1))
        (ascending-filter (λ a b. row_order encode 6 a b ≡ Less) own xs up)

-- ---- the same lots

module _ (tables : Tables) (entries : List Entry) (stand : StandFor tables entries) (account commodity : List ℕ) where
  lots_opened : (lot : LotKey) → Has (map (λ (row : LotRow). row.lot) (lots_at tables account commodity)) lot
      → Has (map (λ (row : OpeningRow). row.lot) (openings_at tables account commodity)) lot
  lots_opened lot has =
      let key = pair_key account commodity in
      let at = has_mapped (λ (row : LotRow). row.lot) (lots_at tables account commodity) lot has in
      let row = at.0 in
      let found = has_filtered (λ (r : LotRow). has_key 2 key (lot_cells r)) tables.lot row at.1 in
      let good = all_has IsLotRow tables.lot row (recursion_from_All IsLotRow tables.lot stand.good.lot) found.0 in
      let other = lot_has_opening tables entries stand row good found.0 in
      let opened = opening_row row.account row.commodity row.lot other.0 in
      subst (Has (map (λ (r : OpeningRow). r.lot) (openings_at tables account commodity))) (sym at.2)
      (mapped_has (λ (r : OpeningRow). r.lot) (openings_at tables account commodity) opened
      (has_kept (λ (r : OpeningRow). has_key 2 key (opening_cells r)) tables.opening opened other.1 found.1))

  lots_held : (lot : LotKey) → Has (map (λ (row : OpeningRow). row.lot) (openings_at tables account commodity)) lot
      → Has (map (λ (row : LotRow). row.lot) (lots_at tables account commodity)) lot
  lots_held lot has =
      let key = pair_key account commodity in
      let at = has_mapped (λ (row : OpeningRow). row.lot) (openings_at tables account commodity) lot has in
      let row = at.0 in
      let found = has_filtered (λ (r : OpeningRow). has_key 2 key (opening_cells r)) tables.opening row at.1 in
      let good = all_has IsOpeningRow tables.opening row (recursion_from_All IsOpeningRow tables.opening stand.good.opening) found.0 in
      let other = opening_has_lot tables entries stand row good found.0 in
      let held = lot_row row.account row.commodity row.lot other.0 in
      subst (Has (map (λ (r : LotRow). r.lot) (lots_at tables account commodity))) (sym at.2)
      (mapped_has (λ (r : LotRow). r.lot) (lots_at tables account commodity) held
      (has_kept (λ (r : LotRow). has_key 2 key (lot_cells r)) tables.lot held other.1 found.1))

  -- the rows of a pair have the same lots in both tables, in the same order
  pub same_lots : map (λ (row : LotRow). row.lot) (lots_at tables account commodity)
      ≡ map (λ (row : OpeningRow). row.lot) (openings_at tables account commodity)
  same_lots =
      same_list (lot_order account commodity) (lot_order-total account commodity)
      (map (λ (row : LotRow). row.lot) (lots_at tables account commodity))
      (map (λ (row : OpeningRow). row.lot) (openings_at tables account commodity))
      (lots_rise account commodity lot_cells (λ row. row.account) (λ row. row.commodity) (λ row. row.lot)
      (λ row. (Int row.units ∷ [], refl)) tables.lot stand.ordered.lot)
      (lots_rise account commodity opening_cells (λ row. row.account) (λ row. row.commodity) (λ row. row.lot)
      (λ row. (Int (pos row.opening) ∷ [], refl)) tables.opening stand.ordered.opening)
      lots_opened lots_held

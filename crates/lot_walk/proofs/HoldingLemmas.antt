-- The rows of plain units and of lots of tables that stand for a book are together what the book holds.
use Rattle.std.specs.Prelude.{◌≡◌, ◌⊎◌, ℕ, false, List, [], ◌∷◌, drop, Option, None, Some, ℤ}
use Rattle.std.specs.Cmp.{Equal-is}
use Rattle.std.specs.FinMap as finite
use Rattle.std.specs.List.{AllByRecursion, list_any}
use Rattle.std.specs.Ordering.{is_eq, ordering_then}
use Rattle.std.specs.declared.cmp.Ordering.TheVariants.{Less, Equal}
use Rattle.std.proofs.Common.{refl, sym, ap, subst, ◌∙◌, inl, inr}
use Rattle.std.proofs.lemmas.Bool.{and_parts, cases_Bool, true≢false}
use Rattle.std.proofs.lemmas.Cmp.{tied_itself}
use Rattle.std.proofs.lemmas.List.Elements.{recursion_from_All}
use Rattle.sqlite.specs.Order.{Row}
use Rattle.sqlite.specs.Tree.{IsAscending}
use Rattle.sqlite.specs.declared.types.Value.TheVariants.{Int}
use Rattle.sqlite_keyed.proofs.ListLemmas.{ascending_weaker, none_from_any}
use Rattle.sqlite_rules.specs.Lists.{Has}
use Rattle.sqlite_rules.proofs.ListLemmas.{all_from, all_has, has_filtered, has_kept, some_has}
use Rattle.sqlite_value.proofs.OrderLemmas.{value_cmp-Text}
use Rattle.lot_base.proofs.TextLemmas.{one_text}
use Rattle.lot_inv.specs.Inventory.{Position as Place, non_zero, position_cmp as place_cmp}
use Rattle.lot_cost.specs.declared.lot_key.LotKey.{LotKey}
use Rattle.lot_inv.proofs.OrderLemmas.{positions_total as places_total, exact_positions as exact_places}
use Rattle.lot_book.specs.Change.{units_before}
use Rattle.lot_book.specs.Facts.{Entry, legs_of}
use Rattle.lot_book.specs.Holding.{position_of}
use Rattle.lot_book.specs.Leg.{position_cmp}
use Rattle.lot_book.specs.Recorded.{facts_in}
use Rattle.lot_book.specs.declared.holding.Holding.{Holding}
use Rattle.lot_book.specs.declared.leg.Position.{Position}
use Rattle.lot_book.proofs.HeldLemmas.{no_zeros-empty, no_zeros-legs}
use Rattle.lot_book.proofs.OrderLemmas.{exact_positions, positions_total}
use Rattle.lot_table.specs.Cell.{IsLabelOrNone}
use Rattle.lot_table.specs.Rows.{has_key, key_order, with_key}
use Rattle.lot_rows.specs.Lot.{IsLotRow, lot_cells}
use Rattle.lot_rows.specs.Plain.{plain_cells}
use Rattle.lot_rows.specs.Tables.{Tables, plain_table}
use Rattle.lot_rows.specs.declared.lot.LotRow.{LotRow}
use Rattle.lot_rows.specs.declared.plain.PlainRow.{PlainRow}
use Rattle.lot_stored.specs.Rows.{lot_row, pair_key, plain_row, row_at}
use Rattle.lot_stored.specs.StandFor.{StandFor, sum_in}
use Rattle.lot_stored.proofs.KeyLemmas.{has_pair, lot_rows_order}
use Rattle.lot_stored.proofs.LookupLemmas.{has_own_key, row-there}
use Rattle.lot_stored.proofs.HeldLemmas.{by_option, held_in_book, lot_there, lot_true, mapped_some, plain_missing, plain_true}
use Rattle.lot_walk.specs.Holdings.{IsHoldings, holding_cmp, lot_holding, merged, plain_holding}
use Rattle.lot_walk.proofs.LookLemmas.{looked_as, sorted_keys}
use Rattle.lot_walk.proofs.MergeLemmas.{AreLotsUp, ArePlainUp, has_lot_row, has_merged, has_plain, rises_merged}

-- ---- the order of the rows is that of positions

pub plain_up : (rows : List PlainRow) → IsAscending (λ a b. key_order 2 (plain_cells a) (plain_cells b) ≡ Less) rows → ArePlainUp rows
plain_up =
    ascending_weaker (λ a b. key_order 2 (plain_cells a) (plain_cells b) ≡ Less) (λ a b. holding_cmp (plain_holding a) (plain_holding b) ≡ Less)
    (λ a b less. sym (same a b) ∙ less)
  where
    same : (a b : PlainRow) → key_order 2 (plain_cells a) (plain_cells b) ≡ holding_cmp (plain_holding a) (plain_holding b)
    same a b = λ i. ordering_then (value_cmp-Text a.account b.account i) (ordering_then (value_cmp-Text a.commodity b.commodity i) Equal)

pub lot_order : (a b : LotRow) → IsLabelOrNone a.lot.label → IsLabelOrNone b.lot.label
    → key_order 6 (lot_cells a) (lot_cells b) ≡ holding_cmp (lot_holding a) (lot_holding b)
lot_order a b =
    lot_rows_order a.account a.commodity b.account b.commodity a.lot b.lot (Int a.units ∷ []) (Int b.units ∷ [])

pub lots_up : (rows : List LotRow) → AllByRecursion IsLotRow rows → IsAscending (λ a b. key_order 6 (lot_cells a) (lot_cells b) ≡ Less) rows
    → AreLotsUp rows
lots_up [] good up = tt
lots_up (row ∷ rows) good up = (
  all_from (λ other. holding_cmp (lot_holding row) (lot_holding other) ≡ Less) rows
      (λ other has.
      sym (lot_order row other good.0.lot.label (all_has IsLotRow rows other good.1 has).lot.label)
      ∙ all_has (λ r. key_order 6 (lot_cells row) (lot_cells r) ≡ Less) rows other up.0 has),
  lots_up rows good.1 up.1,
)

-- ---- what the rows say

-- what a position holds
abbrev Holds : List Entry → Position → Option ℤ → Type 0
Holds entries position units = units ≡ non_zero (units_before (facts_in entries) position)

abbrev held_at : List Entry → Position → Option ℤ
held_at entries position = finite.get ((facts_in entries).held position.account) (position.commodity, position.lot)

as_held : (entries : List Entry) (position : Position) (units : Option ℤ) → held_at entries position ≡ units → Holds entries position units
as_held entries position units e =
    sym e ∙ no_zeros-legs position.account finite.empty (legs_of entries) no_zeros-empty (position.commodity, position.lot)

module _ (tables : Tables) (entries : List Entry) (stand : StandFor tables entries) where
  holding_true : (holding : Holding) → Has (merged tables.plain tables.lot) holding → Holds entries (position_of holding) (Some holding.units)
  holding_true holding has =
      elim (has_merged tables.plain tables.lot holding has) [
        | inl row ↦
            subst (λ h. Holds entries (position_of h) (Some h.units)) (sym row.2)
            (as_held entries (position_of (plain_holding row.0)) (Some row.0.units) (plain_true tables entries stand row.0 row.1))
        | inr row ↦
            subst (λ h. Holds entries (position_of h) (Some h.units)) (sym row.2)
            (as_held entries (position_of (lot_holding row.0)) (Some row.0.units)
            (lot_true tables entries stand row.0 (all_has IsLotRow tables.lot row.0 (recursion_from_All IsLotRow tables.lot stand.good.lot) row.1) row.1))
      ]

  -- a position has a row, or holds nothing
  abbrev IsListed : Position → Type 0
  IsListed position = ((holding : Holding) × Has (merged tables.plain tables.lot) holding × (position_of holding ≡ position)) ⊎ Holds entries position None

  plain_listed : (account commodity : List ℕ) → IsListed (record { account = account; commodity = commodity; lot = None })
  plain_listed account commodity = by (row_at plain_table (pair_key account commodity) tables) refl
    where
      by : (found : Option PlainRow) → row_at plain_table (pair_key account commodity) tables ≡ found → IsListed (record { account = account; commodity = commodity; lot = None })
      by None e = inr (as_held entries (record { account = account; commodity = commodity; lot = None }) None (plain_missing tables entries stand account commodity e))
      by (Some row) e =
          let is =
          mapped_some (plain_row account commodity) (non_zero (sum_in entries (record { account = account; commodity = commodity; lot = None }))) row
          (sym e ∙ stand.plain account commodity) in
          inl (
            plain_holding row,
            has_plain tables.plain tables.lot row (row-there plain_cells 2 (pair_key account commodity) tables.plain row e).0,
            ap (λ (r : PlainRow). position_of (plain_holding r)) is.2,
          )

  -- no lot of the account and the commodity has this key among the rows
  no_lot : (account commodity : List ℕ) (lot : LotKey)
      → AllByRecursion (λ (row : LotRow). is_eq (place_cmp (row.commodity, Some row.lot) (commodity, Some lot)) ≡ false)
      (with_key lot_cells 2 (pair_key account commodity) tables.lot)
      → held_at entries (record { account = account; commodity = commodity; lot = Some lot }) ≡ None
  no_lot account commodity lot none =
      let place : Place = (commodity, Some lot) in
      let rows = with_key lot_cells 2 (pair_key account commodity) tables.lot in
      by_option (held_in_book entries account place) (λ is. is)
      (λ units held.
      let row : LotRow = lot_row account commodity lot units in
      let among : Has rows row =
      has_kept (λ (r : LotRow). has_key 2 (pair_key account commodity) (lot_cells r)) tables.lot row
      (lot_there tables entries stand account commodity lot units held) (has_own_key 2 (lot_cells row)) in
      absurd (true≢false (sym (ap is_eq (tied_itself places_total place))
      ∙ all_has (λ (r : LotRow). is_eq (place_cmp (r.commodity, Some r.lot) place) ≡ false) rows row none among)))

  abbrev lot_rest : LotRow → Row
  lot_rest row = drop 2 (lot_cells row)

  lot_listed : (account commodity : List ℕ) (lot : LotKey) → IsListed (record { account = account; commodity = commodity; lot = Some lot })
  lot_listed account commodity lot =
      elim (cases_Bool (list_any (λ (row : LotRow). is_eq (place_cmp (row.commodity, Some row.lot) (commodity, Some lot))) (with_key lot_cells 2 (pair_key account commodity) tables.lot))) [
        | inl some ↦
            let row = some_has (λ (r : LotRow). is_eq (place_cmp (r.commodity, Some r.lot) (commodity, Some lot))) (with_key lot_cells 2 (pair_key account commodity) tables.lot) some in
            let among = has_filtered (λ (r : LotRow). has_key 2 (pair_key account commodity) (lot_cells r)) tables.lot row.0 row.1 in
            let accounts : account ≡ row.0.account =
            one_text account row.0.account (and_parts _ _ (sym (has_pair account commodity row.0.account row.0.commodity (lot_rest row.0)) ∙ among.1)).0 in
            let place : ◌≡◌ {A = Place} (row.0.commodity, Some row.0.lot) (commodity, Some lot) = exact_places _ _ ((Equal-is _).0 row.2) in
            inl (
              lot_holding row.0,
              has_lot_row tables.plain tables.lot row.0 among.0,
              λ i. record { account = (sym accounts) i; commodity = (place i).0; lot = (place i).1 },
            )
        | inr none ↦ inr (as_held entries (record { account = account; commodity = commodity; lot = Some lot }) None
            (no_lot account commodity lot (none_from_any _ (with_key lot_cells 2 (pair_key account commodity) tables.lot) none)))
      ]

  listed : (position : Position) → IsListed position
  listed position = by position.account position.commodity position.lot
    where
      by : (account commodity : List ℕ) (lot : Option LotKey) → IsListed (record { account = account; commodity = commodity; lot = lot })
      by account commodity None = plain_listed account commodity
      by account commodity (Some lot) = lot_listed account commodity lot

  pub merged_up : IsAscending (λ a b. holding_cmp a b ≡ Less) (merged tables.plain tables.lot)
  merged_up =
      rises_merged tables.plain tables.lot (plain_up tables.plain stand.ordered.plain)
      (lots_up tables.lot (recursion_from_All IsLotRow tables.lot stand.good.lot) stand.ordered.lot)

  -- merged they are what the book holds
  pub merged_holdings : IsHoldings entries (merged tables.plain tables.lot)
  merged_holdings = record {
    in_order = sorted_keys position_cmp positions_total exact_positions position_of (λ (h : Holding). h.units) (merged tables.plain tables.lot) merged_up;
    each = looked_as position_cmp positions_total exact_positions position_of (λ (h : Holding). h.units) (Holds entries) (merged tables.plain tables.lot) merged_up holding_true listed;
  }

-- What is held has its rows exactly where each holding that is listed has them.
use Rattle.std.specs.Prelude.{◌≡◌, ◌≢◌, ◌↔◌, ℤ, pos, Bool, true, false, cond, List, [], ◌∷◌, map, None, Some}
use Rattle.std.specs.List.{AllByRecursion}
use Rattle.std.specs.Map.{lookup}
use Rattle.std.specs.Ordering.{int_eq, is_eq}
use Rattle.std.proofs.lemmas.Cmp.{tied_itself}
use Rattle.std.proofs.Common.{refl, sym, ap, subst, ◌∙◌, inl, inr}
use Rattle.std.proofs.lemmas.Bool.{true≢false}
use Rattle.std.proofs.lemmas.Bool.Decides.{Decides-int_eq}
use Rattle.sqlite_rules.specs.Lists.{Has}
use Rattle.sqlite_rules.proofs.ListLemmas.{all_from}
use Rattle.lot_inv.specs.Inventory.{non_zero, units_at}
use Rattle.lot_book.specs.Holding.{ListsHoldings, entry_of, position_of}
use Rattle.lot_book.specs.Leg.{same_position}
use Rattle.lot_book.specs.declared.holding.Holding.{Holding}
use Rattle.lot_book.specs.declared.leg.Position.{Position}
use Rattle.lot_book.proofs.OrderLemmas.{one_position, positions_total}
use Rattle.lot_rows.specs.Tables.{Tables}
use Rattle.lot_view.specs.View.{known}
use Rattle.lot_view.specs.declared.view.View.{View}
use Rattle.lot_audit.specs.Told.{HasItsRows, HeldHasRows, HoldingHasRows}

-- ---- a row of a position

found_row : (P : Holding → Type 0) (p : Position) (rows : List Holding) (units : ℤ)
    → lookup (same_position p) (map entry_of rows) ≡ Some units → AllByRecursion P rows
    → (row : Holding) × (p ≡ position_of row) × P row
found_row P p [] units is all = absurd cc
found_row P p (row ∷ rows) units is all =
    by (same_position p (position_of row)) refl is (λ later. found_row P p rows units later all.1)
  where
    by : (b : Bool) → same_position p (position_of row) ≡ b
        → cond b (Some row.units) (lookup (same_position p) (map entry_of rows)) ≡ Some units
        → (lookup (same_position p) (map entry_of rows) ≡ Some units → (other : Holding) × (p ≡ position_of other) × P other)
        → (other : Holding) × (p ≡ position_of other) × P other
    by true here found rest = (row, one_position p (position_of row) here, all.0)
    by false apart found rest = rest found

same_as_itself : (p : Position) → same_position p p ≡ true
same_as_itself p = ap is_eq (tied_itself positions_total p)

row_found : (row : Holding) (rows : List Holding) → Has rows row
    → lookup (same_position (position_of row)) (map entry_of rows) ≢ None
row_found row [] has none = has
row_found row (first ∷ rows) (inl here) none =
    by (same_position (position_of row) (position_of first)) refl none
  where
    by : (b : Bool) → same_position (position_of row) (position_of first) ≡ b
        → cond b (Some first.units) (lookup (same_position (position_of row)) (map entry_of rows)) ≡ None → ⊥
    by true same gone = cc
    by false apart gone =
        true≢false (sym (same_as_itself (position_of row))
        ∙ ap (λ (h : Holding). same_position (position_of row) (position_of h)) here ∙ apart)
row_found row (first ∷ rows) (inr later) none =
    by (same_position (position_of row) (position_of first)) none (row_found row rows later)
  where
    by : (b : Bool) → cond b (Some first.units) (lookup (same_position (position_of row)) (map entry_of rows)) ≡ None
        → (lookup (same_position (position_of row)) (map entry_of rows) ≢ None) → ⊥
    by true gone rest = cc
    by false gone rest = rest gone

-- ---- all of them

some_units : (units : ℤ) → units ≢ pos 0 → non_zero units ≡ Some units
some_units units some = by (int_eq units (pos 0)) refl
  where
    by : (b : Bool) → int_eq units (pos 0) ≡ b → cond b None (Some units) ≡ Some units
    by true zero = absurd (some ((Decides-int_eq units (pos 0)).0 zero))
    by false apart = refl

module _ (view : View) (tables : Tables) (rows : List Holding) (lists : ListsHoldings (known view) rows) where
  all_held : AllByRecursion (HoldingHasRows tables) rows → HeldHasRows view tables
  all_held all account commodity lot some =
      let p : Position = record { account = account; commodity = commodity; lot = lot } in
      let units = units_at ((known view).held account) (commodity, lot) in
      let it = found_row (HoldingHasRows tables) p rows units (lists.each p ∙ some_units units some) all in
      subst (λ (q : Position). HasItsRows q.account q.commodity q.lot tables) (sym it.1) it.2

  each_held : HeldHasRows view tables → AllByRecursion (HoldingHasRows tables) rows
  each_held held =
      all_from (HoldingHasRows tables) rows
      (λ row has.
      held row.account row.commodity row.lot
      (λ zero. row_found row rows has (lists.each (position_of row) ∙ ap non_zero zero)))

  pub listed_held : AllByRecursion (HoldingHasRows tables) rows ↔ HeldHasRows view tables
  listed_held = (all_held, each_held)

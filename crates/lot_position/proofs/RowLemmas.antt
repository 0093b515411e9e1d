-- The rows of what is kept, in its order.
use Rattle.std.specs.Prelude.{◌≡◌, ℤ, pos, Bool, true, false, cond, List, [], ◌∷◌, ◌++◌, map, None, Some, Err}
use Rattle.std.specs.BTreeMap.{IsOrdered, get}
use Rattle.std.specs.List.{AllByRecursion}
use Rattle.std.specs.List.Sorted.{IsStrictlySortedBy}
use Rattle.std.specs.Map.{keys_of, lookup}
use Rattle.std.specs.Ordering.{int_eq}
use Rattle.std.proofs.Common.{lit<, refl, sym, ap, subst, ◌∙◌}
use Rattle.std.proofs.lemmas.List.{append-nil}
use Rattle.std.proofs.lemmas.List.Elements.{recursion_from_All}
use Rattle.std.proofs.lemmas.Map.Views.{All-found}
use Rattle.lot_num.specs.Amount.{IsUnits}
use Rattle.lot_inv.specs.Inventory.{non_zero}
use Rattle.lot_book.specs.Holding.{entry_of, position_of}
use Rattle.lot_book.specs.Leg.{position_cmp, same_position}
use Rattle.lot_book.specs.declared.holding.Holding.{Holding}
use Rattle.lot_book.specs.declared.leg.Position.{Position}
use Rattle.lot_book.proofs.CaseLemmas.{by_bool}
use Rattle.lot_book.proofs.OrderLemmas.{positions_total}
use Rattle.lot_laws.proofs.OpeningLemmas.{zero_is}
use Rattle.lot_legs.specs.declared.leg.DatedLeg.{DatedLeg}
use Rattle.lot_report.specs.declared.fault.ReportFault.{ReportFault}
use Rattle.lot_report.specs.declared.fault.ReportFault.TheVariants.{Range}
use Rattle.lot_position.specs.Held.{AreInRange, Keeps, ListsHeld, PushesRow, held_at, holding_at}
use Rattle.lot_position.specs.declared.positions.Positions.{Positions}
use Rattle.lot_position.proofs.KeepLemmas.{Sums}
use Rattle.lot_position.proofs.SumLemmas.{some_kept, zero_gone}

-- ---- one row after another

abbrev pub HasUnits : Holding → Type 0
HasUnits row = IsUnits row.units

-- the rows so far, whose units are in range, and what is left are all that is kept
abbrev pub RowsSoFar : List Holding → List (Position × ℤ) → Sums → Type 0
RowsSoFar rows left sums = (map entry_of rows ++ left ≡ sums.entries) × AllByRecursion HasUnits rows

row_moved : (rows : List Holding) (row : Holding) (left : List (Position × ℤ))
    → map entry_of (rows ++ row ∷ []) ++ left ≡ map entry_of rows ++ entry_of row ∷ left
row_moved [] row left = refl
row_moved (first ∷ rows) row left = ap (λ (l : List (Position × ℤ)). entry_of first ∷ l) (row_moved rows row left)

fit_push : (rows : List Holding) (row : Holding) → AllByRecursion HasUnits rows → HasUnits row → AllByRecursion HasUnits (rows ++ row ∷ [])
fit_push [] row fit own = (own, tt)
fit_push (first ∷ rows) row fit own = (fit.0, fit_push rows row fit.1 own)

pub one_row_more : (rows new : List Holding) (left rest : List (Position × ℤ)) (sums : Sums) (position : Position) (units : ℤ) (row : Holding)
    → RowsSoFar rows left sums → left ≡ (position, units) ∷ rest → IsUnits units × (row ≡ holding_at position units) → new ≡ rows ++ row ∷ []
    → RowsSoFar new rest sums
one_row_more rows new left rest sums position units row so_far is (fits, own) more =
    let same : entry_of row ≡ (position, units) = ap entry_of own in
    subst (λ (ls : List Holding). RowsSoFar ls rest sums) (sym more) (
      row_moved rows row rest ∙ ap (λ (e : Position × ℤ). map entry_of rows ++ e ∷ rest) same
          ∙ ap (λ (l : List (Position × ℤ)). map entry_of rows ++ l) (sym is) ∙ so_far.0,
      fit_push rows row so_far.1 (subst (λ (h : Holding). IsUnits h.units) (sym own) fits),
    )

-- ---- all rows

pub all_given : (rows : List Holding) (left : List (Position × ℤ)) (sums : Sums) → RowsSoFar rows left sums → left ≡ []
    → map entry_of rows ≡ sums.entries
all_given rows left sums so_far none =
    sym (append-nil (map entry_of rows)) ∙ ap (λ (l : List (Position × ℤ)). map entry_of rows ++ l) (sym none) ∙ so_far.0

keys_are : (rows : List Holding) → keys_of (map entry_of rows) ≡ map position_of rows
keys_are [] = refl
keys_are (row ∷ rows) = ap (λ (l : List Position). position_of row ∷ l) (keys_are rows)

pub rows_listed : (day : ℤ) (legs : List DatedLeg) (rows : List Holding) (positions : Positions) → IsOrdered position_cmp positions.sums
    → map entry_of rows ≡ positions.sums.entries → Keeps day legs positions → ListsHeld day legs rows
rows_listed day legs rows positions ordered are keeps = record {
  in_order = subst (IsStrictlySortedBy position_cmp) (ap keys_of (sym are) ∙ keys_are rows) ordered;
  each = λ position. ap (lookup (same_position position)) are ∙ keeps.each position;
}

-- what is found in rows is in range
found_fits : (rows : List Holding) (position : Position) (units : ℤ) → AllByRecursion HasUnits rows
    → lookup (same_position position) (map entry_of rows) ≡ Some units → IsUnits units
found_fits [] position units fit found = absurd cc
found_fits (row ∷ rows) position units fit found =
    by (same_position position (position_of row)) found (found_fits rows position units fit.1)
  where
    by : (b : Bool) → cond b (Some row.units) (lookup (same_position position) (map entry_of rows)) ≡ Some units
        → (lookup (same_position position) (map entry_of rows) ≡ Some units → IsUnits units) → IsUnits units
    by true here later = let same : row.units ≡ units = cc in subst IsUnits same fit.0
    by false there later = later there

pub rows_in_range : (day : ℤ) (legs : List DatedLeg) (rows : List Holding) → AllByRecursion HasUnits rows → ListsHeld day legs rows → AreInRange day legs
rows_in_range day legs rows fit lists position =
    let sum = held_at day legs position in
    by_bool (int_eq sum (pos 0))
    (λ e. subst IsUnits (sym (zero_is sum e)) none)
    (λ e. found_fits rows position sum fit (lists.each position ∙ some_kept sum e))
  where
    none : IsUnits (pos 0)
    none = lit< tt

-- ---- a sum that is out of range

-- its row isn't pushed
pub unfit : (position : Position) (units : ℤ) (old new : List Holding) (fault : ReportFault) → PushesRow position units old new (Err fault)
    → fault ≡ Range → IsUnits units → ⊥
unfit position units old new fault pushes at =
    subst (λ (f : ReportFault). PushesRow position units old new (Err f)) at pushes

-- one among others
among : {X : Type 0} (P : X → Type 0) (before behind : List X) (x : X) → AllByRecursion P (before ++ x ∷ behind) → P x
among P [] behind x all = all.0
among P (first ∷ before) behind x all = among P before behind x all.1

kept_is : (position : Position) (units sum : ℤ) → non_zero sum ≡ Some units → sum ≡ units
kept_is position units sum is =
    by_bool (int_eq sum (pos 0))
    (λ e. let no : None ≡ Some units = sym (zero_gone sum e) ∙ is in absurd cc)
    (λ e. let same : Some sum ≡ Some units = sym (some_kept sum e) ∙ is in cc)

pub out_of_range : (day : ℤ) (legs : List DatedLeg) (rows : List Holding) (left rest : List (Position × ℤ)) (positions : Positions) (position : Position) (units : ℤ)
    → IsOrdered position_cmp positions.sums → RowsSoFar rows left positions.sums → left ≡ (position, units) ∷ rest → (IsUnits units → ⊥)
    → Keeps day legs positions → AreInRange day legs → ⊥
out_of_range day legs rows left rest positions position units ordered so_far is out keeps within =
    let all = recursion_from_All (λ (e : Position × ℤ). get position_cmp positions.sums e.0 ≡ Some e.1) positions.sums.entries
    (All-found positions_total positions.sums ordered) in
    let split : positions.sums.entries ≡ map entry_of rows ++ (position, units) ∷ rest =
    sym so_far.0 ∙ ap (λ (l : List (Position × ℤ)). map entry_of rows ++ l) is in
    let found : get position_cmp positions.sums position ≡ Some units =
    among (λ (e : Position × ℤ). get position_cmp positions.sums e.0 ≡ Some e.1) (map entry_of rows) rest (position, units)
    (subst (AllByRecursion (λ (e : Position × ℤ). get position_cmp positions.sums e.0 ≡ Some e.1)) split all) in
    out (subst IsUnits (kept_is position units (held_at day legs position) (sym (keeps.each position) ∙ found)) (within position))

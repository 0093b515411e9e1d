-- The places of an inventory, rows that set units at them, and what legs leave there.
use Rattle.std.specs.Prelude.{◌≡◌, ℕ, Bool, true, false, cond, ◌&&◌, List, [], ◌∷◌, Option, None, Some, ℤ, ◌+ℤ◌}
use Rattle.std.specs.Cmp.Lexicographic.{texts_ties}
use Rattle.std.specs.FinMap.{empty, get, get-empty}
use Rattle.std.specs.Map.{lookup}
use Rattle.std.specs.Option.{unwrap_or}
use Rattle.std.specs.Ordering.{eq_by_cmp}
use Rattle.std.proofs.Common.{refl, sym, ap, ◌∙◌}
use Rattle.lot_base.specs.Text.{same_text, text_cmp}
use Rattle.lot_inv.specs.Inventory.{Held, Position as Place, added, position_cmp as place_cmp, non_zero, units_at, with_units}
use Rattle.lot_inv.specs.Zeros.{HasNoZeros}
use Rattle.lot_cost.proofs.OrderLemmas.{eq_then}
use Rattle.lot_inv.proofs.LotLemmas.{get-with_units}
use Rattle.lot_inv.proofs.SetLemmas.{kept_when_set}
use Rattle.lot_book.specs.declared.leg.Leg.{Leg}
use Rattle.lot_book.specs.declared.leg.Position.{Position}
use Rattle.lot_book.specs.Change.{ListsSums}
use Rattle.lot_book.specs.Facts.{Facts}
use Rattle.lot_book.specs.Leg.{same_position, with_leg, with_legs}
use Rattle.lot_book.specs.Recorded.{with_row, with_rows}

-- a place in the inventory of an account
abbrev pub at : List ℕ → Place → Position
at account place = record { account = account; commodity = place.0; lot = place.1 }

same_position-parts : (account : List ℕ) (place : Place) (q : Position)
    → same_position (at account place) q ≡ (same_text account q.account && eq_by_cmp place_cmp place (q.commodity, q.lot))
same_position-parts account place q =
    let other : Place = (q.commodity, q.lot) in
    eq_then (text_cmp account q.account) (place_cmp place other)
    ∙ ap (λ b. b && eq_by_cmp place_cmp place other) (sym (texts_ties account q.account))

-- what a place has once units are set there, or none are
abbrev pub settled : Option ℤ → Option ℤ → Option ℤ
settled None had = had
settled (Some units) had = non_zero units

pub settled-sum : (listed : Option ℤ) (before : ℤ) → settled listed (non_zero before) ≡ non_zero (unwrap_or listed before)
settled-sum None before = refl
settled-sum (Some sum) before = refl

pub get-with_row : (account : List ℕ) (held : Held) (row : Position × ℤ) (place : Place)
    → get (with_row account held row) place ≡ cond (same_position (at account place) row.0) (non_zero row.1) (get held place)
get-with_row account held row place =
    by (same_text account row.0.account)
    ∙ ap (λ b. cond b (non_zero row.1) (get held place)) (sym (same_position-parts account place row.0))
  where
    by : (b : Bool) → get (cond b (with_units held (row.0.commodity, row.0.lot) row.1) held) place
        ≡ cond (b && eq_by_cmp place_cmp place (row.0.commodity, row.0.lot)) (non_zero row.1) (get held place)
    by true = get-with_units held (row.0.commodity, row.0.lot) row.1 place
    by false = refl

pub get-with_rows : (account : List ℕ) (held : Held) (rows : List (Position × ℤ)) (place : Place)
    → get (with_rows account held rows) place ≡ settled (lookup (same_position (at account place)) rows) (get held place)
get-with_rows account held [] place = refl
get-with_rows account held (row ∷ rows) place =
    get-with_row account (with_rows account held rows) row place
    ∙ ap (cond (same_position (at account place) row.0) (non_zero row.1)) (get-with_rows account held rows place)
    ∙ by (same_position (at account place) row.0) (lookup (same_position (at account place)) rows)
  where
    by : (b : Bool) (later : Option ℤ)
        → cond b (non_zero row.1) (settled later (get held place)) ≡ settled (cond b (Some row.1) later) (get held place)
    by true later = refl
    by false later = refl

-- ---- inventories without zeros

pub no_zeros-empty : HasNoZeros empty
no_zeros-empty place = rw (get-empty place_cmp place) refl

pub no_zeros-set : (held : Held) (place : Place) (units : ℤ) → HasNoZeros held → HasNoZeros (with_units held place units)
no_zeros-set held place units kept other =
    kept_when_set (eq_by_cmp place_cmp other place) units (get held other) (get (with_units held place units) other)
    (get-with_units held place units other) (kept other)

no_zeros-leg : (account : List ℕ) (held : Held) (leg : Leg) → HasNoZeros held → HasNoZeros (with_leg account held leg)
no_zeros-leg account held leg kept = by (same_text account leg.position.account)
  where
    by : (b : Bool) → HasNoZeros (cond b (added held (leg.position.commodity, leg.position.lot) leg.units) held)
    by true = no_zeros-set held (leg.position.commodity, leg.position.lot) (units_at held (leg.position.commodity, leg.position.lot) +ℤ leg.units) kept
    by false = kept

pub no_zeros-legs : (account : List ℕ) (held : Held) (legs : List Leg) → HasNoZeros held → HasNoZeros (with_legs account held legs)
no_zeros-legs account held [] kept = kept
no_zeros-legs account held (leg ∷ legs) kept = no_zeros-legs account (with_leg account held leg) legs (no_zeros-leg account held leg kept)

-- ---- inventories after legs

-- what a place has after legs is what rows list, or else what it had
pub get-with_legs : (facts : Facts) (legs : List Leg) (rows : List (Position × ℤ)) (account : List ℕ) → HasNoZeros (facts.held account) → ListsSums facts legs rows
    → (place : Place) → get (with_legs account (facts.held account) legs) place ≡ settled (lookup (same_position (at account place)) rows) (get (facts.held account) place)
get-with_legs facts legs rows account kept lists place =
    let listed = lookup (same_position (at account place)) rows in
    no_zeros-legs account (facts.held account) legs kept place
    ∙ ap non_zero (sym (lists (at account place)))
    ∙ sym (settled-sum listed (units_at (facts.held account) place))
    ∙ ap (settled listed) (sym (kept place))

-- The lots of a commodity, set one after another in an empty inventory, are those of the commodity alone.
use Rattle.std.specs.Prelude.{◌≡◌, ℕ, Bool, true, false, cond, ◌&&◌, List, [], ◌∷◌, Option, None, Some, ℤ, pos}
use Rattle.std.specs.BTreeMap.{is_at}
use Rattle.std.specs.Cmp.{eq_by_cmp_equiv, tied_itself}
use Rattle.std.specs.FinMap.{get, get-empty, get-retain_keys}
use Rattle.std.specs.List.Sorted.{IsStrictlySortedBy}
use Rattle.std.specs.Map.{keys_of, lookup}
use Rattle.std.specs.Option.{option_or, unwrap_or}
use Rattle.std.specs.Ordering.{eq_by_cmp, int_eq, is_eq}
use Rattle.std.proofs.Common.{refl, sym, ap, ◌∙◌}
use Rattle.std.proofs.lemmas.Cmp.{nat_list_cmp_total}
use Rattle.std.proofs.lemmas.List.{append-nil}
use Rattle.std.proofs.lemmas.Map.Lookups.{exact_bytes}
use Rattle.std.proofs.lemmas.Map.Made.{lookup-map_values}
use Rattle.lot_base.proofs.MapLemmas.{none_below}
use Rattle.lot_base.specs.Text.{text_cmp}
use Rattle.lot_cost.specs.declared.lot_key.LotKey.{LotKey}
use Rattle.lot_inv.specs.declared.lots.OpenLot.{OpenLot}
use Rattle.lot_inv.specs.Holding.{kept, lot_rows, opening_of, units_in, units_of, with_lots}
use Rattle.lot_inv.specs.Inventory.{Held, Position, Stock, position_cmp, is_lot_of, lots_of, non_zero, nothing, only_lots, opened_at, with_lot}
use Rattle.lot_cost.specs.LotKey.{lot_cmp}
use Rattle.lot_cost.proofs.OrderLemmas.{exact_lots, is_equal}
use Rattle.lot_inv.proofs.InventoryLemmas.{found_in, found_in-lots, in_lots, never_less}
use Rattle.lot_inv.proofs.LawLemmas.{lots_of-get}
use Rattle.lot_inv.proofs.LotLemmas.{get-with_units, lot_position, same_held, same_lots}
use Rattle.lot_inv.proofs.OpeningLemmas.{get-with_opening}
use Rattle.lot_inv.proofs.OrderLemmas.{exact_positions}

pub get-only_lots : (held : Held) (commodity : List ℕ) (position : Position)
    → get (only_lots held commodity) position ≡ cond (is_lot_of commodity position) (get held position) None
get-only_lots held commodity position =
    get-retain_keys held (is_lot_of commodity) position (λ other tied. ap (is_lot_of commodity) (sym (exact_positions position other tied)))

same_text_back : (a b : List ℕ) → is_eq (text_cmp a b) ≡ is_eq (text_cmp b a)
same_text_back a b = (eq_by_cmp_equiv nat_list_cmp_total).symm a b

-- ---- setting lots

-- what is found at a position among the rows of lots
found_lots : (position : Position) (commodity : List ℕ) (lots : List (LotKey × ℤ))
    → found_in position (lot_rows commodity lots) ≡ cond (is_eq (text_cmp position.0 commodity)) (in_lots position.1 lots) None
found_lots position commodity lots =
    let b = is_eq (text_cmp position.0 commodity) in
    ap (found_in position) (sym (append-nil (lot_rows commodity lots)))
    ∙ found_in-lots position.0 commodity position.1 lots []
    ∙ elim (in_lots position.1 lots) as (λ found. cond b (option_or found None) None ≡ cond b found None) [ None ↦ refl | Some units ↦ refl ]

either_way : (b : Bool) (at : Option ℤ) → cond b at at ≡ at
either_way true at = refl
either_way false at = refl

none_either : (at : Option ℤ) (commodity other : List ℕ) → at ≡ None → cond (is_eq (text_cmp other commodity)) at None ≡ None
none_either at commodity other none =
    let b = is_eq (text_cmp other commodity) in
    ap (λ found. cond b found None) none ∙ either_way b None

-- what is held where some units may have been set
abbrev set_or : Option ℤ → Option ℤ → Option ℤ
set_or None before = before
set_or (Some units) before = non_zero units

-- what is found under a key is the units of the lot there
units_found : (key : LotKey) (lots : List (LotKey × OpenLot)) → lookup (is_at (lot_cmp key)) (units_in lots) ≡ units_of (lookup (is_at (lot_cmp key)) lots)
units_found key lots = lookup-map_values (λ (lot : OpenLot). lot.units) (is_at (lot_cmp key)) lots

get-with_lots : (stock : Stock) (commodity : List ℕ) (lots : List (LotKey × OpenLot)) → IsStrictlySortedBy lot_cmp (keys_of lots) → (position : Position)
    → get (with_lots stock commodity lots).held position ≡ set_or (found_in position (lot_rows commodity (units_in lots))) (get stock.held position)
unfolding IsStrictlySortedBy
get-with_lots stock commodity [] sorted position = refl
get-with_lots stock commodity (lot ∷ lots) sorted position =
    let here : Position = (commodity, Some lot.0) in
    let units = lot.1.units in
    let found = found_in position (lot_rows commodity (units_in lots)) in
    get-with_lots (with_lot stock here units lot.1.opening) commodity lots sorted.1 position
    ∙ ap (set_or found) (get-with_units stock.held here units position)
    ∙ elim (eq_by_cmp position_cmp position here) as (λ b. eq_by_cmp position_cmp position here ≡ b
    → set_or found (cond b (non_zero units) (get stock.held position)) ≡ set_or (cond b (Some units) found) (get stock.held position)) [
      | true ↦ λ e.
          let same : position ≡ here = exact_positions position here (is_equal (position_cmp position here) e) in
          let none : found ≡ None = ap (λ p. found_in p (lot_rows commodity (units_in lots))) same ∙ found_lots here commodity (units_in lots)
          ∙ none_either (in_lots (Some lot.0) (units_in lots)) commodity commodity
          (units_found lot.0 lots ∙ ap units_of (none_below lot_cmp lot.0 lots sorted.0)) in
          ap (λ f. set_or f (non_zero units)) none
      | false ↦ λ e. refl
    ] refl

set_in_empty : (at : Option ℤ) → set_or at None ≡ non_zero (unwrap_or at (pos 0))
set_in_empty None = refl
set_in_empty (Some units) = refl

-- no lot of a list has zero units
abbrev pub NoneIsZero : List (LotKey × OpenLot) → Type 0
NoneIsZero lots = (key : LotKey)
    → units_of (lookup (is_at (lot_cmp key)) lots) ≡ non_zero (unwrap_or (units_of (lookup (is_at (lot_cmp key)) lots)) (pos 0))

pub only-with_lots : (held : Held) (commodity : List ℕ) (lots : List (LotKey × OpenLot)) → lots_of held commodity ≡ units_in lots
    → IsStrictlySortedBy lot_cmp (keys_of lots) → NoneIsZero lots → (with_lots nothing commodity lots).held ≡ only_lots held commodity
only-with_lots held commodity lots are sorted nonzero =
    same_held (with_lots nothing commodity lots).held (only_lots held commodity) (λ position.
    get-with_lots nothing commodity lots sorted position
    ∙ (λ i. set_or (found_lots position commodity (units_in lots) i) (get-empty position_cmp position i))
    ∙ each position
    ∙ sym (get-only_lots held commodity position))
  where
    each : (position : Position)
        → set_or (cond (is_eq (text_cmp position.0 commodity)) (in_lots position.1 (units_in lots)) None) None ≡ cond (is_lot_of commodity position) (get held position) None
    each (other, None) =
        ap (λ found. set_or found None) (none_either None commodity other refl)
        ∙ sym (ap (λ b. cond b (get held (other, None)) None) (never_less (is_eq (text_cmp commodity other))))
    each (other, Some key) =
        let o = text_cmp other commodity in
        elim (is_eq o) as (λ b. is_eq o ≡ b → set_or (cond b (in_lots (Some key) (units_in lots)) None) None ≡ cond (b && true) (get held (other, Some key)) None) [
          | true ↦ λ e.
              set_in_empty (lookup (is_at (lot_cmp key)) (units_in lots))
              ∙ ap (λ o. non_zero (unwrap_or o (pos 0))) (units_found key lots) ∙ sym (nonzero key) ∙ sym (units_found key lots)
              ∙ ap (lookup (is_at (lot_cmp key))) (sym are) ∙ lots_of-get held commodity key
              ∙ ap (λ c. get held (c, Some key)) (sym (exact_bytes other commodity (is_equal o e)))
          | false ↦ λ e. refl
        ] refl
        ∙ ap (λ b. cond (b && true) (get held (other, Some key)) None) (same_text_back other commodity)

-- ---- their opening numbers

-- the opening number where a lot may have been set
abbrev number_or : Option OpenLot → Option ℕ → Option ℕ
number_or None before = before
number_or (Some lot) before = opening_of (kept lot.units lot.opening)

number-with_lots : (stock : Stock) (commodity : List ℕ) (lots : List (LotKey × OpenLot)) → IsStrictlySortedBy lot_cmp (keys_of lots) → (key : LotKey)
    → opened_at (with_lots stock commodity lots) commodity key ≡ number_or (lookup (is_at (lot_cmp key)) lots) (opened_at stock commodity key)
unfolding IsStrictlySortedBy
number-with_lots stock commodity [] sorted key = refl
number-with_lots stock commodity (lot ∷ lots) sorted key =
    let here : Position = (commodity, Some lot.0) in
    let there : Position = (commodity, Some key) in
    let kept_lot = lot.1 in
    let number = opening_of (kept kept_lot.units kept_lot.opening) in
    let found = lookup (is_at (lot_cmp key)) lots in
    number-with_lots (with_lot stock here kept_lot.units kept_lot.opening) commodity lots sorted.1 key
    ∙ ap (number_or found) (get-with_opening stock.opened commodity lot.0 kept_lot.units kept_lot.opening there
    ∙ ap (λ b. cond b number (opened_at stock commodity key)) (lot_position commodity key lot.0))
    ∙ elim (is_eq (lot_cmp key lot.0)) as (λ b. is_eq (lot_cmp key lot.0) ≡ b
    → number_or found (cond b number (opened_at stock commodity key)) ≡ number_or (cond b (Some kept_lot) found) (opened_at stock commodity key)) [
      | true ↦ λ e.
          let same : key ≡ lot.0 = exact_lots key lot.0 (is_equal (lot_cmp key lot.0) e) in
          let none : found ≡ None = ap (λ k. lookup (is_at (lot_cmp k)) lots) same ∙ none_below lot_cmp lot.0 lots sorted.0 in
          ap (λ f. number_or f number) none
      | false ↦ λ e. refl
    ] refl

set_alone : (lot : Option OpenLot) → units_of lot ≡ non_zero (unwrap_or (units_of lot) (pos 0)) → number_or lot None ≡ opening_of lot
set_alone None nonzero = refl
set_alone (Some lot) nonzero = elim (int_eq lot.units (pos 0)) as (λ b. Some lot.units ≡ cond b None (Some lot.units)
    → opening_of (cond b None (Some (record { units = lot.units; opening = lot.opening }))) ≡ Some lot.opening) [
      | true ↦ λ e. cc e
      | false ↦ λ e. refl
    ] nonzero

-- each keeps its own
pub numbers-with_lots : (commodity : List ℕ) (lots : List (LotKey × OpenLot)) → IsStrictlySortedBy lot_cmp (keys_of lots) → NoneIsZero lots
    → (key : LotKey) → opened_at (with_lots nothing commodity lots) commodity key ≡ opening_of (lookup (is_at (lot_cmp key)) lots)
numbers-with_lots commodity lots sorted nonzero key =
    number-with_lots nothing commodity lots sorted key
    ∙ ap (number_or (lookup (is_at (lot_cmp key)) lots)) (get-empty position_cmp (commodity, Some key))
    ∙ set_alone (lookup (is_at (lot_cmp key)) lots) (nonzero key)

-- ---- the lots of it

-- its lots are those of the whole inventory
pub lots_of-only_lots : (held : Held) (commodity : List ℕ) → lots_of (only_lots held commodity) commodity ≡ lots_of held commodity
lots_of-only_lots held commodity =
    same_lots (only_lots held commodity) held commodity (λ key.
    get-only_lots held commodity (commodity, Some key)
    ∙ ap (λ b. cond b (get held (commodity, Some key)) None) (is_lot_of-lot commodity key))
  where
    is_lot_of-lot : (commodity : List ℕ) (key : LotKey) → is_lot_of commodity (commodity, Some key) ≡ true
    is_lot_of-lot commodity key = ap (λ o. is_eq o && true) (tied_itself nat_list_cmp_total commodity)

-- Lots as they are listed: with their units, and with the opening numbers of their keys.
use Rattle.std.specs.Prelude.{◌≡◌, ℕ, true, false, cond, List, [], ◌∷◌, filter, map, Some, ℤ}
use Rattle.std.specs.BTreeMap.{is_at}
use Rattle.std.specs.Cmp.{tied_itself}
use Rattle.std.specs.List.Sorted.{IsStrictlySortedBy}
use Rattle.std.specs.Map.{keys_of, lookup, values_of}
use Rattle.std.specs.Ordering.{is_eq}
use Rattle.std.proofs.Common.{refl, sym, ap, ◌∙◌}
use Rattle.lot_base.proofs.MapLemmas.{none_below}
use Rattle.lot_cost.specs.declared.cost_spec.CostSpec.{CostSpec}
use Rattle.lot_cost.specs.declared.lot_key.LotKey.{LotKey}
use Rattle.lot_cost.specs.CostSpec.{fits}
use Rattle.lot_cost.specs.LotKey.{lot_cmp}
use Rattle.lot_cost.proofs.OrderLemmas.{exact_lots, is_equal, lots_total}
use Rattle.lot_inv.specs.declared.lots.OpenLot.{OpenLot}
use Rattle.lot_inv.specs.declared.lot.Lot.{Lot}
use Rattle.lot_inv.specs.Holding.{listed, takeable, takeable_lots, units_in}
use Rattle.lot_inv.specs.Inventory.{other_sign}
use Rattle.lot_inv.specs.Lot.{AreNumberedBy, key_and_units}
use Rattle.lot_inv.proofs.RowLemmas.{none_isnt_some}

-- the units of lots, under their keys or alone
pub values_of-units_in : (lots : List (LotKey × OpenLot)) → values_of (units_in lots) ≡ map (λ (lot : OpenLot). lot.units) (values_of lots)
values_of-units_in [] = refl
values_of-units_in (lot ∷ lots) = ap (λ units. lot.1.units ∷ units) (values_of-units_in lots)

-- the lots that a specification fits, without their opening numbers
pub units-listed : (spec : CostSpec) (lots : List (LotKey × OpenLot))
    → map key_and_units (filter (λ (lot : Lot). fits spec lot.key) (listed lots)) ≡ filter (λ (lot : LotKey × ℤ). fits spec lot.0) (units_in lots)
units-listed spec [] = refl
units-listed spec (lot ∷ lots) =
    let rest = filter (λ (lot : Lot). fits spec lot.key) (listed lots) in
    let units = filter (λ (lot : LotKey × ℤ). fits spec lot.0) (units_in lots) in
    let first : Lot = record { key = lot.0; units = lot.1.units; opening = lot.1.opening } in
    elim (fits spec lot.0) as (λ b. map key_and_units (cond b (first ∷ rest) rest) ≡ cond b ((lot.0, lot.1.units) ∷ units) units) [
      | true ↦ ap (λ ls. (lot.0, lot.1.units) ∷ ls) (units-listed spec lots)
      | false ↦ units-listed spec lots
    ]

-- those among lots that have the other sign than units
signs-kept : (units : ℤ) (lots : List Lot)
    → map key_and_units (filter (λ (lot : Lot). other_sign lot.units units) lots)
    ≡ filter (λ (lot : LotKey × ℤ). other_sign lot.1 units) (map key_and_units lots)
signs-kept units [] = refl
signs-kept units (lot ∷ lots) =
    let rest = filter (λ (lot : Lot). other_sign lot.units units) lots in
    let others = filter (λ (lot : LotKey × ℤ). other_sign lot.1 units) (map key_and_units lots) in
    elim (other_sign lot.units units) as (λ b. map key_and_units (cond b (lot ∷ rest) rest) ≡ cond b (key_and_units lot ∷ others) others) [
      | true ↦ ap (λ ls. key_and_units lot ∷ ls) (signs-kept units lots)
      | false ↦ signs-kept units lots
    ]

pub takeable-listed : (units : ℤ) (spec : CostSpec) (lots : List (LotKey × OpenLot))
    → map key_and_units (takeable_lots units spec (listed lots)) ≡ takeable units spec (units_in lots)
takeable-listed units spec lots =
    signs-kept units (filter (λ (lot : Lot). fits spec lot.key) (listed lots))
    ∙ ap (filter (λ (lot : LotKey × ℤ). other_sign lot.1 units)) (units-listed spec lots)

pub none-listed : (lots : List Lot) → map key_and_units lots ≡ [] → lots ≡ []
none-listed [] e = refl
none-listed (lot ∷ lots) e = absurd (none_isnt_some (key_and_units lot) (map key_and_units lots) e)

-- they have the opening numbers of their keys
pub numbers-listed : (opening : LotKey → ℕ) (spec : CostSpec) (lots : List (LotKey × OpenLot)) → IsStrictlySortedBy lot_cmp (keys_of lots)
    → ((key : LotKey) (lot : OpenLot) → lookup (is_at (lot_cmp key)) lots ≡ Some lot → lot.opening ≡ opening key)
    → AreNumberedBy opening (filter (λ (lot : Lot). fits spec lot.key) (listed lots))
unfolding IsStrictlySortedBy
numbers-listed opening spec [] sorted has = tt
numbers-listed opening spec (first ∷ lots) sorted has =
    let rest = filter (λ (lot : Lot). fits spec lot.key) (listed lots) in
    let lot : Lot = record { key = first.0; units = first.1.units; opening = first.1.opening } in
    let others = numbers-listed opening spec lots sorted.1 (λ key lot e. has key lot (behind key lot e)) in
    let here : first.1.opening ≡ opening first.0 =
    has first.0 first.1 (ap (λ o. cond (is_eq o) (Some first.1) (lookup (is_at (lot_cmp first.0)) lots)) (tied_itself lots_total first.0)) in
    elim (fits spec first.0) as (λ b. AreNumberedBy opening (cond b (lot ∷ rest) rest)) [
      | true ↦ (here, others)
      | false ↦ others
    ]
  where
    behind : (key : LotKey) (lot : OpenLot) → lookup (is_at (lot_cmp key)) lots ≡ Some lot → lookup (is_at (lot_cmp key)) (first ∷ lots) ≡ Some lot
    behind key lot e =
        let found = lookup (is_at (lot_cmp key)) lots in
        elim (is_eq (lot_cmp key first.0)) as (λ b. is_eq (lot_cmp key first.0) ≡ b → cond b (Some first.1) found ≡ Some lot) [
          | true ↦ λ same.
              let none = ap (λ k. lookup (is_at (lot_cmp k)) lots) (exact_lots key first.0 (is_equal (lot_cmp key first.0) same)) ∙ none_below lot_cmp first.0 lots sorted.0 in
              cc (sym none ∙ e)
          | false ↦ λ other. e
        ] refl

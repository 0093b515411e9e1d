-- What a change of one holding does to the maps that the rows of all holdings make.
use Rattle.std.specs.Prelude.{◌≡◌, ◌≢◌, ℕ, Bool, true, false, cond, ◌&&◌, List, [], ◌∷◌, length, Option, None, Some, is_some, ℤ, pos, option_and_then, IfSome, Result, Ok, Err, OnErr, OnOk}
use Rattle.std.specs.declared.cmp.Ordering.TheVariants.{Less}
use Rattle.std.specs.BTreeMap.{is_at}
use Rattle.std.specs.Cmp.{eq_by_cmp_equiv, tied_itself}
use Rattle.std.specs.FinMap.{get, same_map}
use Rattle.std.specs.List.Sorted.{IsStrictlySortedBy}
use Rattle.std.specs.Map.{keys_of, lookup}
use Rattle.std.specs.Option.{option_cmp, unwrap_or}
use Rattle.std.specs.Ordering.{int_eq, is_eq, eq_by_cmp}
use Rattle.std.proofs.Common.{refl, sym, ap, subst, ◌∙◌}
use Rattle.std.proofs.lemmas.Map.Lookups.{exact_bytes}
use Rattle.lot_base.specs.Text.{text_cmp}
use Rattle.lot_inv.specs.declared.inventory.Holding.{Holding}
use Rattle.lot_inv.specs.declared.lots.OpenLot.{OpenLot}
use Rattle.lot_cost.specs.declared.lot_key.LotKey.{LotKey}
use Rattle.lot_inv.specs.Holding.{AreAlike, AreHoldings, HoldsSomething, IsHolding, ChangesPosition, NeedsPosition, NoneIsEmpty, NoOtherIsEmpty, held_at, found, kept, kept_at, opening_of, units_of}
use Rattle.lot_inv.specs.Inventory.{Position, Stock, StoresMore, position_cmp, non_zero, with_lot, with_opening, with_units}
use Rattle.lot_cost.specs.LotKey.{lot_cmp}
use Rattle.lot_cost.proofs.OrderLemmas.{eq_then, is_equal}
use Rattle.lot_inv.proofs.InventoryLemmas.{AreOf, found_seen, get-held_of, get-opened_of, get-opened_of_plain, held_of, made_of, never_less, opened_of, units_of-kept, units_of-kept_at}
use Rattle.lot_inv.proofs.LotLemmas.{get-with_units, same_held}
use Rattle.lot_inv.proofs.OpeningLemmas.{get-with_opening}
use Rattle.lot_cost.proofs.OrderLemmas.{lots_total, lot_options_total}
use Rattle.lot_inv.proofs.OrderLemmas.{exact_positions, positions_total}

pub on_err : {X Y : Type 0} {P : Type 0} (r : Result X Y) → P → OnErr r P
on_err (Ok x) p = tt
on_err (Err y) p = p

pub on_ok-then : {X Y : Type 0} {P Q : Type 0} (r : Result X Y) → (P → Q) → OnOk r P → OnOk r Q
on_ok-then (Ok x) f p = f p
on_ok-then (Err y) f p = tt

pub on_err-then : {X Y : Type 0} {P Q : Type 0} (r : Result X Y) → (P → Q) → OnErr r P → OnErr r Q
on_err-then (Ok x) f p = tt
on_err-then (Err y) f p = f p

pub on_err-both : {X Y : Type 0} {P Q R : Type 0} (r : Result X Y) → (P → Q → R) → OnErr r P → OnErr r Q → OnErr r R
on_err-both (Ok x) f p q = tt
on_err-both (Err y) f p q = f p q

-- units that are kept as they are to be, and are then set at one key, are so again
pub kept_when_set : (b : Bool) (units : ℤ) (before after : Option ℤ) → after ≡ cond b (non_zero units) before
    → before ≡ non_zero (unwrap_or before (pos 0)) → after ≡ non_zero (unwrap_or after (pos 0))
kept_when_set b units before after e h = e ∙ elim b as (λ b. cond b (non_zero units) before ≡ non_zero (unwrap_or (cond b (non_zero units) before) (pos 0))) [
  | true ↦ non_zero_twice units
  | false ↦ h
] ∙ ap (λ o. non_zero (unwrap_or o (pos 0))) (sym e)
  where
    non_zero_twice : (z : ℤ) → non_zero z ≡ non_zero (unwrap_or (non_zero z) (pos 0))
    non_zero_twice z = elim (int_eq z (pos 0)) as (λ b. int_eq z (pos 0) ≡ b → cond b None (Some z) ≡ non_zero (unwrap_or (cond b None (Some z)) (pos 0))) [
      | true ↦ λ e. refl
      | false ↦ λ e. sym (ap (λ b. cond b None (Some z)) e)
    ] refl

-- the lots of a holding are so, once one of them was set
pub nonzero_when_set : (b : Bool) (units : ℤ) (opening : ℕ) (before after : Option OpenLot) → after ≡ cond b (kept units opening) before
    → units_of before ≡ non_zero (unwrap_or (units_of before) (pos 0)) → units_of after ≡ non_zero (unwrap_or (units_of after) (pos 0))
nonzero_when_set b units opening before after e =
    kept_when_set b units (units_of before) (units_of after)
    (ap units_of e ∙ elim b as (λ b. units_of (cond b (kept units opening) before) ≡ cond b (non_zero units) (units_of before)) [
      | true ↦ units_of-kept units opening
      | false ↦ refl
    ])

-- a lot that wasn't held is one more
pub lot_inserted : (old mid new : List (LotKey × OpenLot)) (key copied : LotKey) (units : ℤ) (opening : ℕ) → copied ≡ key → mid ≡ old → int_eq units (pos 0) ≡ false
    → ((other : LotKey) → lookup (is_at (lot_cmp other)) new
    ≡ cond (is_eq (lot_cmp copied other)) (Some (record { units = units; opening = opening })) (lookup (is_at (lot_cmp other)) mid))
    → (other : LotKey) → lookup (is_at (lot_cmp other)) new ≡ cond (is_eq (lot_cmp key other)) (kept units opening) (lookup (is_at (lot_cmp other)) old)
lot_inserted old mid new key copied units opening e m some updates other =
    let lot : OpenLot = record { units = units; opening = opening } in
    updates other
    ∙ ap (λ k. cond (is_eq (lot_cmp k other)) (Some lot) (lookup (is_at (lot_cmp other)) mid)) e
    ∙ ap (λ es. cond (is_eq (lot_cmp key other)) (Some lot) (lookup (is_at (lot_cmp other)) es)) m
    ∙ ap (λ b. cond (is_eq (lot_cmp key other)) (cond b None (Some lot)) (lookup (is_at (lot_cmp other)) old)) (sym some)

-- the holding of a commodity is another one, or there is none any more
abbrev pub Changes : List (List ℕ × Holding) → List (List ℕ × Holding) → List ℕ → Option Holding → Type 0
Changes old new commodity at = (other : List ℕ) → lookup (is_at (text_cmp other)) new
    ≡ cond (is_eq (text_cmp commodity other)) at (lookup (is_at (text_cmp other)) old)

pub changes_inserted : (old mid new : List (List ℕ × Holding)) (commodity copied : List ℕ) (holding : Holding) → copied ≡ commodity → mid ≡ old
    → ((other : List ℕ) → lookup (is_at (text_cmp other)) new ≡ cond (is_eq (text_cmp copied other)) (Some holding) (lookup (is_at (text_cmp other)) mid))
    → Changes old new commodity (Some holding)
changes_inserted old mid new commodity copied holding e m updates other =
    updates other
    ∙ ap (λ c. cond (is_eq (text_cmp c other)) (Some holding) (lookup (is_at (text_cmp other)) mid)) e
    ∙ ap (λ es. cond (is_eq (text_cmp commodity other)) (Some holding) (lookup (is_at (text_cmp other)) es)) m

pub holdings_changed : (old new : List (List ℕ × Holding)) (commodity : List ℕ) (holding : Holding) → AreHoldings old → IsHolding holding
    → Changes old new commodity (Some holding) → IsStrictlySortedBy text_cmp (keys_of new) → AreHoldings new
holdings_changed old new commodity holding are is changes sorted = record {
  sorted = sorted;
  each = λ other. subst (λ o. IfSome o IsHolding) (sym (changes other)) (
      elim (is_eq (text_cmp commodity other)) as (λ b. IfSome (cond b (Some holding) (lookup (is_at (text_cmp other)) old)) IsHolding) [
        | true ↦ is
        | false ↦ are.each other
      ]);
}

pub found_forgotten : (old new : List (List ℕ × Holding)) (commodity : List ℕ) (holding : Holding)
    → Some holding ≡ lookup (is_at (text_cmp commodity)) old → ((key : Option LotKey) → held_at holding key ≡ None)
    → Changes old new commodity None → (position : Position) → found new position ≡ found old position
found_forgotten old new commodity holding at nothing changes position =
    let find = option_and_then (λ (h : Holding). held_at h position.1) in
    let o = text_cmp commodity position.0 in
    ap find (changes position.0) ∙ elim (is_eq o) as (λ b. is_eq o ≡ b → find (cond b None (lookup (is_at (text_cmp position.0)) old)) ≡ found old position) [
      | true ↦ λ e. sym (ap (λ c. find (lookup (is_at (text_cmp c)) old)) (sym (exact_bytes commodity position.0 (is_equal o e))) ∙ ap find (sym at) ∙ nothing position.1)
      | false ↦ λ e. refl
    ] refl

pub found_changed : (old new : List (List ℕ × Holding)) (commodity : List ℕ) (key : Option LotKey) (lot : Option OpenLot) (holding : Holding) (at : Option Holding)
    → at ≡ lookup (is_at (text_cmp commodity)) old
    → ((other : Option LotKey) → held_at holding other ≡ cond (is_eq (option_cmp lot_cmp key other)) lot (option_and_then (λ (h : Holding). held_at h other) at))
    → Changes old new commodity (Some holding) → ChangesPosition old new (commodity, key) lot
found_changed old new commodity key lot holding at is sets changes position =
    let find = option_and_then (λ (h : Holding). held_at h position.1) in
    let o = text_cmp commodity position.0 in
    let k = option_cmp lot_cmp key position.1 in
    ap find (changes position.0)
    ∙ elim (is_eq o) as (λ b. is_eq o ≡ b → find (cond b (Some holding) (lookup (is_at (text_cmp position.0)) old)) ≡ cond (b && is_eq k) lot (found old position)) [
      | true ↦ λ e. sets position.1 ∙ ap (cond (is_eq k) lot) (ap find is ∙ ap (λ c. find (lookup (is_at (text_cmp c)) old)) (exact_bytes commodity position.0 (is_equal o e)))
      | false ↦ λ e. refl
    ] refl
    ∙ ap (λ b. cond b lot (found old position)) (sym (eq_then o k))

pub found_alike : (old new : List (List ℕ × Holding)) (commodity : List ℕ) (holding : Holding) (at : Option Holding)
    → at ≡ lookup (is_at (text_cmp commodity)) old
    → ((other : Option LotKey) → held_at holding other ≡ option_and_then (λ (h : Holding). held_at h other) at)
    → Changes old new commodity (Some holding) → AreAlike old new
found_alike old new commodity holding at is same changes position =
    let find = option_and_then (λ (h : Holding). held_at h position.1) in
    let o = text_cmp commodity position.0 in
    ap find (changes position.0)
    ∙ elim (is_eq o) as (λ b. is_eq o ≡ b → find (cond b (Some holding) (lookup (is_at (text_cmp position.0)) old)) ≡ found old position) [
      | true ↦ λ e. same position.1 ∙ ap find is ∙ ap (λ c. find (lookup (is_at (text_cmp c)) old)) (exact_bytes commodity position.0 (is_equal o e))
      | false ↦ λ e. refl
    ] refl

pub set_nothing : (old new : List (List ℕ × Holding)) (commodity : List ℕ) (key : Option LotKey) (lot : Option OpenLot)
    → None ≡ lookup (is_at (text_cmp commodity)) old → new ≡ old → lot ≡ None → ChangesPosition old new (commodity, key) lot
set_nothing old new commodity key lot at same zero position =
    let find = option_and_then (λ (h : Holding). held_at h position.1) in
    let o = text_cmp commodity position.0 in
    let k = option_cmp lot_cmp key position.1 in
    ap (λ es. found es position) same
    ∙ elim (is_eq o) as (λ b. is_eq o ≡ b → found old position ≡ cond (b && is_eq k) lot (found old position)) [
      | true ↦ λ e.
          let none : found old position ≡ None = ap (λ c. find (lookup (is_at (text_cmp c)) old)) (sym (exact_bytes commodity position.0 (is_equal o e))) ∙ ap find (sym at) in
          none ∙ elim (is_eq k) as (λ b. None ≡ cond b lot (found old position)) [ true ↦ sym zero | false ↦ sym none ]
      | false ↦ λ e. refl
    ] refl
    ∙ ap (λ b. cond b lot (found old position)) (sym (eq_then o k))

-- what is kept of zero units is nothing
pub nothing_kept : (key : Option LotKey) (units : ℤ) (opening : ℕ) → int_eq units (pos 0) ≡ true → kept_at key units opening ≡ None
nothing_kept None units opening zero = ap (λ b. cond b None (Some (record { units = units; opening = 0 }))) zero
nothing_kept (Some key) units opening zero = ap (λ b. cond b None (Some (record { units = units; opening = opening }))) zero

pub something_kept : (units : ℤ) (opening : ℕ) → int_eq units (pos 0) ≡ false → kept units opening ≡ Some (record { units = units; opening = opening })
something_kept units opening some = ap (λ b. cond b None (Some (record { units = units; opening = opening }))) some

-- ---- the two maps

-- holdings of which the same is found make the same opening numbers
opened_alike : (old new : List (List ℕ × Holding)) → AreHoldings old → AreHoldings new → AreAlike old new → opened_of new ≡ opened_of old
opened_alike old new are still alike = same_map positions_total exact_positions (opened_of new) (opened_of old) each
  where
    each : (position : Position) → get (opened_of new) position ≡ get (opened_of old) position
    each (commodity, None) = get-opened_of_plain new commodity ∙ sym (get-opened_of_plain old commodity)
    each (commodity, Some key) =
        get-opened_of new commodity key still.sorted ∙ ap opening_of (alike (commodity, Some key)) ∙ sym (get-opened_of old commodity key are.sorted)

held_alike : (old new : List (List ℕ × Holding)) → AreHoldings old → AreHoldings new → AreAlike old new → held_of new ≡ held_of old
held_alike old new are still alike =
    same_held (held_of new) (held_of old) (λ position.
    get-held_of new position still.sorted ∙ ap units_of (alike position) ∙ sym (get-held_of old position are.sorted))

pub stock_alike : (old new : List (List ℕ × Holding)) (stock : Stock) → AreHoldings old → AreHoldings new → AreOf old stock
    → AreAlike old new → AreOf new stock
stock_alike old new stock are still view alike =
    let held = held_alike old new are still alike in
    let opened = opened_alike old new are still alike in
    let same : made_of new ≡ made_of old = λ i. record { held = held i; opened = opened i } in
    same ∙ view

held_set : (old new : List (List ℕ × Holding)) (position : Position) (units : ℤ) (opening : ℕ) → AreHoldings old → AreHoldings new
    → ChangesPosition old new position (kept_at position.1 units opening) → held_of new ≡ with_units (held_of old) position units
held_set old new position units opening are still is =
    same_held (held_of new) (with_units (held_of old) position units) (λ other.
    let same : eq_by_cmp position_cmp position other ≡ eq_by_cmp position_cmp other position = (eq_by_cmp_equiv positions_total).symm position other in
    get-held_of new other still.sorted ∙ ap units_of (is other)
    ∙ elim (eq_by_cmp position_cmp position other) as (λ b. units_of (cond b (kept_at position.1 units opening) (found old other)) ≡ cond b (non_zero units) (units_of (found old other))) [
      | true ↦ units_of-kept_at position.1 units opening
      | false ↦ refl
    ]
    ∙ ap (λ b. cond b (non_zero units) (units_of (found old other))) same
    ∙ ap (cond (eq_by_cmp position_cmp other position) (non_zero units)) (sym (get-held_of old other are.sorted))
    ∙ sym (get-with_units (held_of old) position units other))

opened_set : (old new : List (List ℕ × Holding)) (position : Position) (units : ℤ) (opening : ℕ) → AreHoldings old → AreHoldings new
    → ChangesPosition old new position (kept_at position.1 units opening) → opened_of new ≡ with_opening (opened_of old) position units opening
opened_set old new (commodity, None) units opening are still is = same_map positions_total exact_positions (opened_of new) (opened_of old) each
  where
    each : (position : Position) → get (opened_of new) position ≡ get (opened_of old) position
    each (other, None) = get-opened_of_plain new other ∙ sym (get-opened_of_plain old other)
    each (other, Some key) =
        let o = text_cmp commodity other in
        get-opened_of new other key still.sorted ∙ ap opening_of (is (other, Some key)
        ∙ ap (λ b. cond b (kept units 0) (found old (other, Some key))) (eq_then o Less ∙ never_less (is_eq o)))
        ∙ sym (get-opened_of old other key are.sorted)
opened_set old new (commodity, Some key) units opening are still is = same_map positions_total exact_positions (opened_of new) (with_opening (opened_of old) (commodity, Some key) units opening) each
  where
    each : (position : Position) → get (opened_of new) position ≡ get (with_opening (opened_of old) (commodity, Some key) units opening) position
    each (other, None) =
        let o = text_cmp other commodity in
        get-opened_of_plain new other ∙ sym (get-opened_of_plain old other)
        ∙ sym (ap (λ b. cond b (opening_of (kept units opening)) (get (opened_of old) (other, None))) (eq_then o Less ∙ never_less (is_eq o)))
        ∙ sym (get-with_opening (opened_of old) commodity key units opening (other, None))
    each (other, Some lot) =
        let here : Position = (commodity, Some key) in
        let there : Position = (other, Some lot) in
        let same : eq_by_cmp position_cmp here there ≡ eq_by_cmp position_cmp there here = (eq_by_cmp_equiv positions_total).symm here there in
        get-opened_of new other lot still.sorted ∙ ap opening_of (is there)
        ∙ elim (eq_by_cmp position_cmp here there) as (λ b. opening_of (cond b (kept units opening) (found old there)) ≡ cond b (opening_of (kept units opening)) (opening_of (found old there))) [
          | true ↦ refl
          | false ↦ refl
        ]
        ∙ ap (λ b. cond b (opening_of (kept units opening)) (opening_of (found old there))) same
        ∙ ap (cond (eq_by_cmp position_cmp there here) (opening_of (kept units opening))) (sym (get-opened_of old other lot are.sorted))
        ∙ sym (get-with_opening (opened_of old) commodity key units opening there)

pub stock_set : (old new : List (List ℕ × Holding)) (stock : Stock) (position : Position) (units : ℤ) (opening : ℕ) → AreHoldings old → AreHoldings new
    → AreOf old stock → ChangesPosition old new position (kept_at position.1 units opening) → AreOf new (with_lot stock position units opening)
stock_set old new stock position units opening are still view is =
    let held = held_set old new position units opening are still is in
    let opened = opened_set old new position units opening are still is in
    let same : made_of new ≡ with_lot (made_of old) position units opening = λ i. record { held = held i; opened = opened i } in
    same ∙ ap (λ (s : Stock). with_lot s position units opening) view

-- what is new among the holdings is new in the map
pub stores_more : (holdings : List (List ℕ × Holding)) (stock : Stock) (commodity : List ℕ) (key : Option LotKey) (units : ℤ) → AreHoldings holdings
    → AreOf holdings stock → NeedsPosition holdings (commodity, key) → units ≢ pos 0 → StoresMore stock.held (commodity, key) units
stores_more holdings stock commodity None units are view needs some =
    (some, λ other. found_seen holdings stock commodity other None are view (sym needs))
stores_more holdings stock commodity (Some key) units are view needs some =
    (some, ap (λ (s : Stock). get s.held (commodity, Some key)) (sym view) ∙ get-held_of holdings (commodity, Some key) are.sorted ∙ ap units_of needs)

-- ---- no holding is kept of which nothing is left

-- after the holding of one commodity changed
pub none_empty : (old new : List (List ℕ × Holding)) (commodity : List ℕ) (at : Option Holding) → NoOtherIsEmpty commodity old
    → Changes old new commodity at → IfSome at HoldsSomething → NoneIsEmpty new
none_empty old new commodity at kept changes holds other =
    let o = text_cmp commodity other in
    subst (λ o. IfSome o HoldsSomething) (sym (changes other)) (
    elim (is_eq o) as (λ b. is_eq o ≡ b → IfSome (cond b at (lookup (is_at (text_cmp other)) old)) HoldsSomething) [
      | true ↦ λ e. holds
      | false ↦ λ e. kept other e
    ] refl)

-- the same where nothing changes, and the commodity's own holding holds something
pub none_empty_still : (holdings : List (List ℕ × Holding)) (commodity : List ℕ) → NoOtherIsEmpty commodity holdings
    → IfSome (lookup (is_at (text_cmp commodity)) holdings) HoldsSomething → NoneIsEmpty holdings
none_empty_still holdings commodity kept holds =
    let at = λ (c : List ℕ). lookup (is_at (text_cmp c)) holdings in
    none_empty holdings holdings commodity (at commodity) kept (λ other.
    elim (is_eq (text_cmp commodity other)) as (λ b. is_eq (text_cmp commodity other) ≡ b → at other ≡ cond b (at commodity) (at other)) [
      | true ↦ λ e. ap at (sym (exact_bytes commodity other (is_equal (text_cmp commodity other) e)))
      | false ↦ λ e. refl
    ] refl) holds

-- units that aren't zero, set at a key, are something
pub something_set : (holding : Holding) (key : Option LotKey) (units : ℤ) (opening : ℕ) (before : Option OpenLot)
    → held_at holding key ≡ cond (is_eq (option_cmp lot_cmp key key)) (kept_at key units opening) before → int_eq units (pos 0) ≡ false → HoldsSomething holding
something_set holding key units opening before sets e = (
  key,
  ap is_some (sets ∙ ap (λ o. cond (is_eq o) (kept_at key units opening) before) (tied_itself lot_options_total key)) ∙ something_kept key,
)
  where
    something_kept : (key : Option LotKey) → is_some (kept_at key units opening) ≡ true
    something_kept None = ap (λ b. is_some {T = OpenLot} (cond b None (Some (record { units = units; opening = 0 })))) e
    something_kept (Some key) = ap (λ b. is_some {T = OpenLot} (cond b None (Some (record { units = units; opening = opening })))) e

-- so is a lot
pub lot_something : (holding : Holding) (lots : List (LotKey × OpenLot)) → lots ≡ holding.lots → length lots ≢ 0 → HoldsSomething holding
lot_something holding [] same some = absurd (some refl)
lot_something holding (lot ∷ lots) same some = (
  Some lot.0,
  ap is_some (ap (lookup (is_at (lot_cmp lot.0))) (sym same) ∙ ap (λ o. cond (is_eq o) (Some lot.1) (lookup (is_at (lot_cmp lot.0)) lots)) (tied_itself lots_total lot.0)),
)

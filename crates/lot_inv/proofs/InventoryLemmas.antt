-- The rows of holdings: their order, what is found in them, and the lots of a commodity among them.
use Rattle.std.specs.Prelude.{◌≡◌, ℕ, Bool, true, false, cond, ◌&&◌, List, [], ◌∷◌, ◌++◌, Option, None, Some, ℤ, pos, is_some, option_and_then, IfSome}
use Rattle.std.specs.declared.cmp.Ordering.{Ordering}
use Rattle.std.specs.declared.cmp.Ordering.TheVariants.{Less, Equal, Greater}
use Rattle.std.specs.BTreeMap.{is_at}
use Rattle.std.specs.Cmp.{tied_itself}
use Rattle.std.specs.FinMap.{get, entries, entries_sorted, from_entries, get-entries, get-from_entries}
use Rattle.std.specs.List.{AllByRecursion}
use Rattle.std.specs.List.Sorted.{IsStrictlySortedBy}
use Rattle.std.specs.Map.{keys_of, lookup}
use Rattle.std.specs.Option.{option_cmp, option_or, unwrap_or}
use Rattle.std.specs.Ordering.{int_eq, is_eq, ordering_then}
use Rattle.std.proofs.Common.{refl, sym, ap, subst, ◌∙◌}
use Rattle.std.proofs.lemmas.List.{append-nil}
use Rattle.std.proofs.lemmas.Cmp.{nat_list_cmp_total}
use Rattle.std.proofs.lemmas.Map.Lookups.{exact_bytes}
use Rattle.std.proofs.lemmas.Map.Made.{keys_of-map_values, lookup-map_values}
use Rattle.lot_inv.specs.declared.inventory.Holding.{Holding}
use Rattle.lot_inv.specs.declared.lots.OpenLot.{OpenLot}
use Rattle.lot_cost.specs.declared.lot_key.LotKey.{LotKey}
use Rattle.lot_inv.specs.Holding.{AreHoldings, IsHolding, held_at, found, kept, kept_at, opening_of, openings_in, plain_rows, lot_rows, rows, units_in, units_of}
use Rattle.lot_inv.specs.Inventory.{Held, NumbersLots, Opened, Position, Stock, position_cmp, non_zero, lots_in, lots_of, opened_at}
use Rattle.lot_cost.specs.LotKey.{lot_cmp}
use Rattle.lot_base.proofs.MapLemmas.{one_map, keys_sorted, found_by_order, none_below}
use Rattle.lot_base.specs.Text.{text_cmp}
use Rattle.lot_cost.proofs.OrderLemmas.{eq_then, is_equal}
use Rattle.lot_inv.proofs.OrderLemmas.{positions_total, exact_positions}

-- ---- the order of the rows

abbrev IsBelow : {V : Type 0} → Position → List (Position × V) → Type 0
IsBelow position rest = AllByRecursion (λ (other : Position). position_cmp position other ≡ Less) (keys_of rest)

same_commodity : (commodity : List ℕ) (o : Ordering) → ordering_then (text_cmp commodity commodity) o ≡ o
same_commodity commodity o = ap (λ r. ordering_then r o) (tied_itself nat_list_cmp_total commodity)

below_lots : (commodity : List ℕ) (key : LotKey) (lots : List (LotKey × OpenLot)) (rest : List (Position × OpenLot))
    → AllByRecursion (λ (other : LotKey). lot_cmp key other ≡ Less) (keys_of lots) → IsBelow (commodity, Some key) rest
    → IsBelow (commodity, Some key) (lot_rows commodity lots ++ rest)
below_lots commodity key [] rest h k = k
below_lots commodity key (lot ∷ lots) rest h k = (same_commodity commodity (lot_cmp key lot.0) ∙ h.0, below_lots commodity key lots rest h.1 k)

plain_below_lots : (commodity : List ℕ) (lots : List (LotKey × OpenLot)) (rest : List (Position × OpenLot))
    → IsBelow (commodity, None) rest → IsBelow (commodity, None) (lot_rows commodity lots ++ rest)
plain_below_lots commodity [] rest k = k
plain_below_lots commodity (lot ∷ lots) rest k = (same_commodity commodity Less, plain_below_lots commodity lots rest k)

other_below_lots : (position : Position) (commodity : List ℕ) (lots : List (LotKey × OpenLot)) (rest : List (Position × OpenLot))
    → text_cmp position.0 commodity ≡ Less → IsBelow position rest → IsBelow position (lot_rows commodity lots ++ rest)
other_below_lots position commodity [] rest e k = k
other_below_lots position commodity (lot ∷ lots) rest e k =
    (ap (λ r. ordering_then r (option_cmp lot_cmp position.1 (Some lot.0))) e, other_below_lots position commodity lots rest e k)

below_plain : (position : Position) (commodity : List ℕ) (units : ℤ) (rest : List (Position × OpenLot))
    → text_cmp position.0 commodity ≡ Less → IsBelow position rest → IsBelow position (plain_rows commodity units ++ rest)
below_plain position commodity units rest e k =
    elim (int_eq units (pos 0)) as (λ b. IsBelow position (cond b [] (((commodity, None), record { units = units; opening = 0 }) ∷ []) ++ rest)) [
      | true ↦ k
      | false ↦ (ap (λ r. ordering_then r (option_cmp lot_cmp position.1 None)) e, k)
    ]

pub below_rows : (position : Position) (holdings : List (List ℕ × Holding))
    → AllByRecursion (λ (other : List ℕ). text_cmp position.0 other ≡ Less) (keys_of holdings) → IsBelow position (rows holdings)
below_rows position [] h = tt
below_rows position (entry ∷ holdings) h =
    below_plain position entry.0 entry.1.plain (lot_rows entry.0 entry.1.lots ++ rows holdings) h.0
    (other_below_lots position entry.0 entry.1.lots (rows holdings) h.0 (below_rows position holdings h.1))

sorted_lots : (commodity : List ℕ) (lots : List (LotKey × OpenLot)) (rest : List (Position × OpenLot))
    → IsStrictlySortedBy lot_cmp (keys_of lots) → IsStrictlySortedBy position_cmp (keys_of rest)
    → ((key : LotKey) → IsBelow (commodity, Some key) rest) → IsStrictlySortedBy position_cmp (keys_of (lot_rows commodity lots ++ rest))
unfolding IsStrictlySortedBy
sorted_lots commodity [] rest h k above = k
sorted_lots commodity (lot ∷ lots) rest h k above =
    (below_lots commodity lot.0 lots rest h.0 (above lot.0), sorted_lots commodity lots rest h.1 k above)

sorted_plain : (commodity : List ℕ) (units : ℤ) (rest : List (Position × OpenLot))
    → IsStrictlySortedBy position_cmp (keys_of rest) → IsBelow (commodity, None) rest
    → IsStrictlySortedBy position_cmp (keys_of (plain_rows commodity units ++ rest))
unfolding IsStrictlySortedBy
sorted_plain commodity units rest k above =
    elim (int_eq units (pos 0)) as (λ b. IsStrictlySortedBy position_cmp (keys_of (cond b [] (((commodity, None), record { units = units; opening = 0 }) ∷ []) ++ rest))) [
      | true ↦ k
      | false ↦ (above, k)
    ]

-- every holding of a list has its lots in order
abbrev pub LotsSorted : List (List ℕ × Holding) → Type 0
LotsSorted holdings = AllByRecursion (λ (entry : List ℕ × Holding). IsStrictlySortedBy lot_cmp (keys_of entry.1.lots)) holdings

pub sorted_rows : (holdings : List (List ℕ × Holding)) → IsStrictlySortedBy text_cmp (keys_of holdings) → LotsSorted holdings
    → IsStrictlySortedBy position_cmp (keys_of (rows holdings))
unfolding IsStrictlySortedBy
sorted_rows [] h k = tt
sorted_rows (entry ∷ holdings) h k =
    sorted_plain entry.0 entry.1.plain (lot_rows entry.0 entry.1.lots ++ rows holdings)
    (sorted_lots entry.0 entry.1.lots (rows holdings) k.0 (sorted_rows holdings h.1 k.1) (λ key. below_rows (entry.0, Some key) holdings h.0))
    (plain_below_lots entry.0 entry.1.lots (rows holdings) (below_rows (entry.0, None) holdings h.0))

-- ---- what is found in the rows

pub never_less : (b : Bool) → (b && false) ≡ false
never_less true = refl
never_less false = refl

pub cond_twice : {X : Type 0} (b r : Bool) (x y : X) (z : X) → cond (b && r) x (cond b y z) ≡ cond b (cond r x y) z
cond_twice true r x y z = refl
cond_twice false r x y z = refl

cond_same : {X : Type 0} (b : Bool) (x : X) → x ≡ cond b x x
cond_same true x = refl
cond_same false x = refl

-- what is found at a position in some rows
abbrev pub found_in : {V : Type 0} → Position → List (Position × V) → Option V
found_in position rest = lookup (is_at (position_cmp position)) rest

-- what lots have at a key, of none where no key is given
abbrev pub in_lots : {V : Type 0} → Option LotKey → List (LotKey × V) → Option V
in_lots None lots = None
in_lots (Some key) lots = lookup (is_at (lot_cmp key)) lots

pub found_in-lots : {V : Type 0} (commodity other : List ℕ) (key : Option LotKey) (lots : List (LotKey × V)) (rest : List (Position × V))
    → found_in (commodity, key) (lot_rows other lots ++ rest)
    ≡ cond (is_eq (text_cmp commodity other)) (option_or (in_lots key lots) (found_in (commodity, key) rest)) (found_in (commodity, key) rest)
found_in-lots commodity other None [] rest = cond_same (is_eq (text_cmp commodity other)) (found_in (commodity, None) rest)
found_in-lots commodity other (Some key) [] rest = cond_same (is_eq (text_cmp commodity other)) (found_in (commodity, Some key) rest)
found_in-lots commodity other None (lot ∷ lots) rest =
    let o = text_cmp commodity other in
    ap (λ b. cond b (Some lot.1) (found_in (commodity, None) (lot_rows other lots ++ rest))) (eq_then o Less ∙ never_less (is_eq o))
    ∙ found_in-lots commodity other None lots rest
found_in-lots commodity other (Some key) (lot ∷ lots) rest =
    let o = text_cmp commodity other in
    let r = lot_cmp key lot.0 in
    let left = found_in (commodity, Some key) rest in
    ap (λ b. cond b (Some lot.1) (found_in (commodity, Some key) (lot_rows other lots ++ rest))) (eq_then o r)
    ∙ ap (cond (is_eq o && is_eq r) (Some lot.1)) (found_in-lots commodity other (Some key) lots rest)
    ∙ cond_twice (is_eq o) (is_eq r) (Some lot.1) (option_or (lookup (is_at (lot_cmp key)) lots) left) left
    ∙ ap (λ x. cond (is_eq o) x left) (
    elim (is_eq r) as (λ b. cond b (Some lot.1) (option_or (lookup (is_at (lot_cmp key)) lots) left)
    ≡ option_or (cond b (Some lot.1) (lookup (is_at (lot_cmp key)) lots)) left) [ true ↦ refl | false ↦ refl ])

-- what plain units are at a key: none, where a key is given
abbrev in_plain : Option LotKey → ℤ → Option OpenLot
in_plain None units = kept units 0
in_plain (Some key) units = None

found_in-plain : (commodity other : List ℕ) (key : Option LotKey) (units : ℤ) (rest : List (Position × OpenLot))
    → found_in (commodity, key) (plain_rows other units ++ rest)
    ≡ cond (is_eq (text_cmp commodity other)) (option_or (in_plain key units) (found_in (commodity, key) rest)) (found_in (commodity, key) rest)
found_in-plain commodity other None units rest =
    let o = text_cmp commodity other in
    let left = found_in (commodity, None) rest in
    elim (int_eq units (pos 0)) as (λ b. found_in (commodity, None) (cond b [] (((other, None), record { units = units; opening = 0 }) ∷ []) ++ rest)
    ≡ cond (is_eq o) (option_or (cond b None (Some (record { units = units; opening = 0 }))) left) left) [
      | true ↦ cond_same (is_eq o) left
      | false ↦ ap (λ b. cond b (Some (record { units = units; opening = 0 })) left) (eq_then o Equal ∙ true_right (is_eq o))
    ]
  where
    true_right : (b : Bool) → (b && true) ≡ b
    true_right true = refl
    true_right false = refl
found_in-plain commodity other (Some key) units rest =
    let o = text_cmp commodity other in
    let left = found_in (commodity, Some key) rest in
    elim (int_eq units (pos 0)) as (λ b. found_in (commodity, Some key) (cond b [] (((other, None), record { units = units; opening = 0 }) ∷ []) ++ rest) ≡ cond (is_eq o) left left) [
      | true ↦ cond_same (is_eq o) left
      | false ↦ ap (λ b. cond b (Some (record { units = units; opening = 0 })) left) (eq_then o Greater ∙ never_less (is_eq o)) ∙ cond_same (is_eq o) left
    ]

held-parts : (holding : Holding) (key : Option LotKey)
    → option_or (in_plain key holding.plain) (option_or (in_lots key holding.lots) None) ≡ held_at holding key
held-parts holding None = elim (kept holding.plain 0) as (λ o. option_or o None ≡ o) [ None ↦ refl | Some v ↦ refl ]
held-parts holding (Some key) = elim (lookup (is_at (lot_cmp key)) holding.lots) as (λ o. option_or o None ≡ o) [ None ↦ refl | Some v ↦ refl ]

none_in_below : (position : Position) (rest : List (Position × OpenLot)) → IsBelow position rest → found_in position rest ≡ None
none_in_below position [] h = refl
none_in_below position (row ∷ rest) h = ap (λ o. cond (is_eq o) (Some row.1) (found_in position rest)) h.0 ∙ none_in_below position rest h.1

pub found_in-rows : (holdings : List (List ℕ × Holding)) (position : Position) → IsStrictlySortedBy text_cmp (keys_of holdings)
    → found_in position (rows holdings) ≡ found holdings position
unfolding IsStrictlySortedBy
found_in-rows [] position h = refl
found_in-rows (entry ∷ holdings) position h =
    let o = text_cmp position.0 entry.0 in
    let left = found_in position (rows holdings) in
    let rest = lot_rows entry.0 entry.1.lots ++ rows holdings in
    found_in-plain position.0 entry.0 position.1 entry.1.plain rest
    ∙ ap (λ x. cond (is_eq o) (option_or (in_plain position.1 entry.1.plain) x) x) (found_in-lots position.0 entry.0 position.1 entry.1.lots (rows holdings))
    ∙ elim (is_eq o) as (λ b. is_eq o ≡ b
    → cond b (option_or (in_plain position.1 entry.1.plain) (cond b (option_or (in_lots position.1 entry.1.lots) left) left)) (cond b (option_or (in_lots position.1 entry.1.lots) left) left)
    ≡ option_and_then (λ (holding : Holding). held_at holding position.1) (cond b (Some entry.1) (lookup (is_at (text_cmp position.0)) holdings))) [
      | true ↦ λ e.
          let same : position.0 ≡ entry.0 = exact_bytes position.0 entry.0 (is_equal o e) in
          let none : left ≡ None = none_in_below position (rows holdings) (below_rows position holdings (subst (λ c. AllByRecursion (λ (other : List ℕ). text_cmp c other ≡ Less) (keys_of holdings)) (sym same) h.0)) in
          ap (λ x. option_or (in_plain position.1 entry.1.plain) (option_or (in_lots position.1 entry.1.lots) x)) none ∙ held-parts entry.1 position.1
      | false ↦ λ e. found_in-rows holdings position h.1
    ] refl

-- ---- the lots of a commodity among the rows

-- the lots of a holding, of none where there is none
abbrev pub lots_at : Option Holding → List (LotKey × OpenLot)
lots_at None = []
lots_at (Some holding) = holding.lots

lots_in-lots : (commodity other : List ℕ) (lots : List (LotKey × OpenLot)) (rest : List (Position × OpenLot))
    → lots_in commodity (units_in (lot_rows other lots ++ rest))
    ≡ cond (is_eq (text_cmp commodity other)) (units_in lots ++ lots_in commodity (units_in rest)) (lots_in commodity (units_in rest))
lots_in-lots commodity other [] rest = cond_same (is_eq (text_cmp commodity other)) (lots_in commodity (units_in rest))
lots_in-lots commodity other (lot ∷ lots) rest =
    let b = is_eq (text_cmp commodity other) in
    let left = lots_in commodity (units_in rest) in
    ap (λ ls. cond b ((lot.0, lot.1.units) ∷ ls) ls) (lots_in-lots commodity other lots rest)
    ∙ elim b as (λ b. cond b ((lot.0, lot.1.units) ∷ cond b (units_in lots ++ left) left) (cond b (units_in lots ++ left) left)
    ≡ cond b ((lot.0, lot.1.units) ∷ (units_in lots ++ left)) left) [ true ↦ refl | false ↦ refl ]

lots_in-plain : (commodity other : List ℕ) (units : ℤ) (rest : List (Position × OpenLot))
    → lots_in commodity (units_in (plain_rows other units ++ rest)) ≡ lots_in commodity (units_in rest)
lots_in-plain commodity other units rest =
    elim (int_eq units (pos 0)) as (λ b. lots_in commodity (units_in (cond b [] (((other, None), record { units = units; opening = 0 }) ∷ []) ++ rest))
    ≡ lots_in commodity (units_in rest)) [ true ↦ refl | false ↦ refl ]

less_is_not : (o : Ordering) → o ≡ Less → is_eq o ≡ false
less_is_not o e = ap is_eq e

no_lots : (commodity : List ℕ) (holdings : List (List ℕ × Holding))
    → AllByRecursion (λ (other : List ℕ). text_cmp commodity other ≡ Less) (keys_of holdings) → lots_in commodity (units_in (rows holdings)) ≡ []
no_lots commodity [] h = refl
no_lots commodity (entry ∷ holdings) h =
    let left = lots_in commodity (units_in (rows holdings)) in
    lots_in-plain commodity entry.0 entry.1.plain (lot_rows entry.0 entry.1.lots ++ rows holdings)
    ∙ lots_in-lots commodity entry.0 entry.1.lots (rows holdings)
    ∙ ap (λ b. cond b (units_in entry.1.lots ++ left) left) (less_is_not (text_cmp commodity entry.0) h.0)
    ∙ no_lots commodity holdings h.1

lots_in-rows : (holdings : List (List ℕ × Holding)) (commodity : List ℕ) → IsStrictlySortedBy text_cmp (keys_of holdings)
    → lots_in commodity (units_in (rows holdings)) ≡ units_in (lots_at (lookup (is_at (text_cmp commodity)) holdings))
unfolding IsStrictlySortedBy
lots_in-rows [] commodity h = refl
lots_in-rows (entry ∷ holdings) commodity h =
    let o = text_cmp commodity entry.0 in
    let left = lots_in commodity (units_in (rows holdings)) in
    lots_in-plain commodity entry.0 entry.1.plain (lot_rows entry.0 entry.1.lots ++ rows holdings)
    ∙ lots_in-lots commodity entry.0 entry.1.lots (rows holdings)
    ∙ elim (is_eq o) as (λ b. is_eq o ≡ b → cond b (units_in entry.1.lots ++ left) left
    ≡ units_in (lots_at (cond b (Some entry.1) (lookup (is_at (text_cmp commodity)) holdings)))) [
      | true ↦ λ e.
          let same : commodity ≡ entry.0 = exact_bytes commodity entry.0 (is_equal o e) in
          let none : left ≡ [] = no_lots commodity holdings (subst (λ c. AllByRecursion (λ (other : List ℕ). text_cmp c other ≡ Less) (keys_of holdings)) (sym same) h.0) in
          ap (λ ls. units_in entry.1.lots ++ ls) none ∙ append-nil (units_in entry.1.lots)
      | false ↦ λ e. lots_in-rows holdings commodity h.1
    ] refl

-- ---- the maps that the rows make

-- the units that holdings hold, and the opening numbers of their lots
abbrev pub held_of : List (List ℕ × Holding) → Held
held_of holdings = from_entries (units_in (rows holdings))

abbrev pub opened_of : List (List ℕ × Holding) → Opened
opened_of holdings = from_entries (openings_in (rows holdings))

-- both are those of an inventory
abbrev pub made_of : List (List ℕ × Holding) → Stock
made_of holdings = record { held = held_of holdings; opened = opened_of holdings }

abbrev pub AreOf : List (List ℕ × Holding) → Stock → Type 0
AreOf holdings stock = made_of holdings ≡ stock

found_by_entries : {V : Type 0} (es : List (Position × V)) (position : Position) → get (from_entries {R = position_cmp} es) position ≡ found_in position es
found_by_entries es position = get-from_entries positions_total es position ∙ found_by_order position_cmp position es

pub get-held_of : (holdings : List (List ℕ × Holding)) (position : Position) → IsStrictlySortedBy text_cmp (keys_of holdings)
    → get (held_of holdings) position ≡ units_of (found holdings position)
get-held_of holdings position h =
    found_by_entries (units_in (rows holdings)) position
    ∙ lookup-map_values (λ (lot : OpenLot). lot.units) (is_at (position_cmp position)) (rows holdings)
    ∙ ap units_of (found_in-rows holdings position h)

-- the opening number that is found under a key is that of its row
found_opening : (commodity : List ℕ) (key : LotKey) (rows : List (Position × OpenLot))
    → found_in (commodity, Some key) (openings_in rows) ≡ opening_of (found_in (commodity, Some key) rows)
found_opening commodity key [] = refl
found_opening commodity key (((other, None), lot) ∷ rows) =
    let o = text_cmp commodity other in
    found_opening commodity key rows
    ∙ sym (ap (λ b. opening_of (cond b (Some lot) (found_in (commodity, Some key) rows))) (eq_then o Greater ∙ never_less (is_eq o)))
found_opening commodity key (((other, Some k), lot) ∷ rows) =
    let b = is_eq (position_cmp (commodity, Some key) (other, Some k)) in
    ap (cond b (Some lot.opening)) (found_opening commodity key rows)
    ∙ elim b as (λ b. cond b (Some lot.opening) (opening_of (found_in (commodity, Some key) rows)) ≡ opening_of (cond b (Some lot) (found_in (commodity, Some key) rows))) [
      | true ↦ refl
      | false ↦ refl
    ]

-- plain units have none
plain_opening : (commodity : List ℕ) (rows : List (Position × OpenLot)) → found_in (commodity, None) (openings_in rows) ≡ None
plain_opening commodity [] = refl
plain_opening commodity (((other, None), lot) ∷ rows) = plain_opening commodity rows
plain_opening commodity (((other, Some k), lot) ∷ rows) =
    let o = text_cmp commodity other in
    ap (λ b. cond b (Some lot.opening) (found_in (commodity, None) (openings_in rows))) (eq_then o Less ∙ never_less (is_eq o))
    ∙ plain_opening commodity rows

pub get-opened_of : (holdings : List (List ℕ × Holding)) (commodity : List ℕ) (key : LotKey) → IsStrictlySortedBy text_cmp (keys_of holdings)
    → get (opened_of holdings) (commodity, Some key) ≡ opening_of (found holdings (commodity, Some key))
get-opened_of holdings commodity key h =
    found_by_entries (openings_in (rows holdings)) (commodity, Some key)
    ∙ found_opening commodity key (rows holdings)
    ∙ ap opening_of (found_in-rows holdings (commodity, Some key) h)

pub get-opened_of_plain : (holdings : List (List ℕ × Holding)) (commodity : List ℕ) → get (opened_of holdings) (commodity, None) ≡ None
get-opened_of_plain holdings commodity =
    found_by_entries (openings_in (rows holdings)) (commodity, None) ∙ plain_opening commodity (rows holdings)

entries-rows : (es : List (Position × ℤ)) → IsStrictlySortedBy position_cmp (keys_of es) → entries (from_entries {R = position_cmp} es) ≡ es
entries-rows es h =
    let m = from_entries {R = position_cmp} es in
    one_map position_cmp positions_total exact_positions (entries m) es (keys_sorted position_cmp (entries m) (entries_sorted m)) h
    (λ position. sym (found_by_order position_cmp position (entries m)) ∙ sym (get-entries m position) ∙ found_by_entries es position)

sorted_units : (holdings : List (List ℕ × Holding)) → IsStrictlySortedBy text_cmp (keys_of holdings) → LotsSorted holdings
    → IsStrictlySortedBy position_cmp (keys_of (units_in (rows holdings)))
sorted_units holdings h k =
    subst (λ (keys : List Position). IsStrictlySortedBy position_cmp keys) (sym (keys_of-map_values (λ (lot : OpenLot). lot.units) (rows holdings))) (sorted_rows holdings h k)

pub lots_of-rows : (holdings : List (List ℕ × Holding)) (commodity : List ℕ) → IsStrictlySortedBy text_cmp (keys_of holdings) → LotsSorted holdings
    → lots_of (held_of holdings) commodity ≡ units_in (lots_at (lookup (is_at (text_cmp commodity)) holdings))
unfolding lots_of
lots_of-rows holdings commodity h k =
    ap (lots_in commodity) (entries-rows (units_in (rows holdings)) (sorted_units holdings h k)) ∙ lots_in-rows holdings commodity h

-- ---- what the calls of an inventory see

some_head : (o : Ordering) (head : Holding) (rest : Option Holding) → is_eq o ≡ true → IfSome (cond (is_eq o) (Some head) rest) IsHolding → IsHolding head
some_head o head rest e h = subst (λ b. IfSome (cond b (Some head) rest) IsHolding) e h

each_sorted : (holdings : List (List ℕ × Holding)) → IsStrictlySortedBy text_cmp (keys_of holdings)
    → ((commodity : List ℕ) → IfSome (lookup (is_at (text_cmp commodity)) holdings) IsHolding) → LotsSorted holdings
unfolding IsStrictlySortedBy
each_sorted [] h each = tt
each_sorted (entry ∷ holdings) h each =
    let head = some_head (text_cmp entry.0 entry.0) entry.1 (lookup (is_at (text_cmp entry.0)) holdings) (ap is_eq (tied_itself nat_list_cmp_total entry.0)) (each entry.0) in (
      head.sorted,
      each_sorted holdings h.1 (λ commodity.
          elim (is_eq (text_cmp commodity entry.0)) as (λ b. is_eq (text_cmp commodity entry.0) ≡ b
          → IfSome (cond b (Some entry.1) (lookup (is_at (text_cmp commodity)) holdings)) IsHolding
          → IfSome (lookup (is_at (text_cmp commodity)) holdings) IsHolding) [
            | true ↦ λ e g.
                let same : commodity ≡ entry.0 = exact_bytes commodity entry.0 (is_equal (text_cmp commodity entry.0) e) in
                let none : lookup (is_at (text_cmp commodity)) holdings ≡ None = none_below text_cmp commodity holdings
                (subst (λ c. AllByRecursion (λ (other : List ℕ). text_cmp c other ≡ Less) (keys_of holdings)) (sym same) h.0) in
                subst (λ o. IfSome o IsHolding) (sym none) tt
            | false ↦ λ e g. g
          ] refl (each commodity)),
    )

pub lots_seen : (holdings : List (List ℕ × Holding)) (stock : Stock) (commodity : List ℕ) (at : Option Holding) → AreHoldings holdings
    → AreOf holdings stock → at ≡ lookup (is_at (text_cmp commodity)) holdings → lots_of stock.held commodity ≡ units_in (lots_at at)
lots_seen holdings stock commodity at are view is =
    ap (λ (s : Stock). lots_of s.held commodity) (sym view)
    ∙ lots_of-rows holdings commodity are.sorted (each_sorted holdings are.sorted are.each)
    ∙ ap (λ o. units_in (lots_at o)) (sym is)

pub rows_seen : (holdings : List (List ℕ × Holding)) (stock : Stock) → AreHoldings holdings → AreOf holdings stock
    → units_in (rows holdings) ≡ entries stock.held
rows_seen holdings stock are view =
    sym (ap (λ (s : Stock). entries s.held) (sym view)
    ∙ entries-rows (units_in (rows holdings)) (sorted_units holdings are.sorted (each_sorted holdings are.sorted are.each)))

pub found_seen : (holdings : List (List ℕ × Holding)) (stock : Stock) (commodity : List ℕ) (key : Option LotKey) (at : Option Holding) → AreHoldings holdings
    → AreOf holdings stock → at ≡ lookup (is_at (text_cmp commodity)) holdings
    → get stock.held (commodity, key) ≡ units_of (option_and_then (λ (holding : Holding). held_at holding key) at)
found_seen holdings stock commodity key at are view is =
    ap (λ (s : Stock). get s.held (commodity, key)) (sym view) ∙ get-held_of holdings (commodity, key) are.sorted
    ∙ ap (λ o. units_of (option_and_then (λ (holding : Holding). held_at holding key) o)) (sym is)

pub opening_seen : (holdings : List (List ℕ × Holding)) (stock : Stock) (commodity : List ℕ) (key : LotKey) (at : Option Holding) → AreHoldings holdings
    → AreOf holdings stock → at ≡ lookup (is_at (text_cmp commodity)) holdings
    → opened_at stock commodity key ≡ opening_of (option_and_then (λ (holding : Holding). held_at holding (Some key)) at)
opening_seen holdings stock commodity key at are view is =
    ap (λ (s : Stock). opened_at s commodity key) (sym view) ∙ get-opened_of holdings commodity key are.sorted
    ∙ ap (λ o. opening_of (option_and_then (λ (holding : Holding). held_at holding (Some key)) o)) (sym is)

both_some : (lot : Option OpenLot) → is_some (opening_of lot) ≡ is_some (units_of lot)
both_some None = refl
both_some (Some lot) = refl

-- each lot that is held has an opening number
pub numbers_seen : (holdings : List (List ℕ × Holding)) (stock : Stock) → AreHoldings holdings → AreOf holdings stock → NumbersLots stock
numbers_seen holdings stock are view commodity key =
    let at = lookup (is_at (text_cmp commodity)) holdings in
    ap is_some (opening_seen holdings stock commodity key at are view refl)
    ∙ both_some (found holdings (commodity, Some key))
    ∙ sym (ap is_some (found_seen holdings stock commodity (Some key) at are view refl))

pub holding_seen : (holdings : List (List ℕ × Holding)) (commodity : List ℕ) (holding : Holding) → AreHoldings holdings
    → Some holding ≡ lookup (is_at (text_cmp commodity)) holdings → IsHolding holding
holding_seen holdings commodity holding are is = subst (λ o. IfSome o IsHolding) (sym is) (are.each commodity)

non_zero-again : (z : ℤ) → non_zero z ≡ non_zero (unwrap_or (non_zero z) (pos 0))
non_zero-again z = elim (int_eq z (pos 0)) as (λ b. int_eq z (pos 0) ≡ b → cond b None (Some z) ≡ non_zero (unwrap_or (cond b None (Some z)) (pos 0))) [
  | true ↦ λ e. refl
  | false ↦ λ e. sym (ap (λ b. cond b None (Some z)) e)
] refl

-- the units of what is kept
pub units_of-kept : (units : ℤ) (opening : ℕ) → units_of (kept units opening) ≡ non_zero units
units_of-kept units opening =
    elim (int_eq units (pos 0)) as (λ b. units_of (cond b None (Some (record { units = units; opening = opening }))) ≡ cond b None (Some units)) [ true ↦ refl | false ↦ refl ]

pub units_of-kept_at : (key : Option LotKey) (units : ℤ) (opening : ℕ) → units_of (kept_at key units opening) ≡ non_zero units
units_of-kept_at None units opening = units_of-kept units 0
units_of-kept_at (Some key) units opening = units_of-kept units opening

pub held_at-nonzero : (holding : Holding) (key : Option LotKey) → IsHolding holding
    → units_of (held_at holding key) ≡ non_zero (unwrap_or (units_of (held_at holding key)) (pos 0))
held_at-nonzero holding None is =
    units_of-kept holding.plain 0 ∙ non_zero-again holding.plain
    ∙ ap (λ o. non_zero (unwrap_or o (pos 0))) (sym (units_of-kept holding.plain 0))
held_at-nonzero holding (Some key) is = is.nonzero key

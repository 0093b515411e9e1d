-- How an inventory is kept: what is held of each commodity, its plain units and its lots with their opening numbers.
use Rattle.std.specs.Prelude.{◌≡◌, ℕ, false, if◌then◌else◌, List, [], ◌∷◌, ◌++◌, filter, map, Option, None, Some, ℤ, pos, IsSome, IfSome, option_and_then}
use Rattle.std.specs.BTreeMap.{is_at}
use Rattle.std.specs.List.Sorted.{IsStrictlySortedBy}
use Rattle.std.specs.Map.{keys_of, lookup}
use Rattle.std.specs.Option.{option_map, unwrap_or}
use Rattle.std.specs.Ordering.{int_eq, is_eq}
use Rattle.lot_base.specs.Text.{text_cmp}
use Rattle.lot_inv.specs.declared.inventory.Holding.{Holding}
use Rattle.lot_inv.specs.declared.lots.OpenLot.{OpenLot}
use Rattle.lot_inv.specs.declared.lot.Lot.{Lot}
use Rattle.lot_cost.specs.declared.cost_spec.CostSpec.{CostSpec}
use Rattle.lot_cost.specs.declared.lot_key.LotKey.{LotKey}
use Rattle.lot_cost.specs.CostSpec.{fits}
use Rattle.lot_inv.specs.Inventory.{Position, Stock, position_cmp, non_zero, other_sign, with_lot}
use Rattle.lot_cost.specs.LotKey.{lot_cmp}
use Rattle.lot_inv.specs.Lots.{lot_at}

-- ---- units and opening numbers

-- what is kept of units that were opened under a number: nothing where they are zero
abbrev pub kept : ℤ → ℕ → Option OpenLot
kept units opening = if int_eq units (pos 0) then None else Some (record { units = units; opening = opening })

-- what is kept at a key, or of plain units: these have no opening number, and 0 stands in its place
abbrev pub kept_at : Option LotKey → ℤ → ℕ → Option OpenLot
kept_at None units opening = kept units 0
kept_at (Some key) units opening = kept units opening

-- the units of a lot, where there is one
abbrev pub units_of : Option OpenLot → Option ℤ
units_of found = option_map (λ (lot : OpenLot). lot.units) found

-- its opening number
abbrev pub opening_of : Option OpenLot → Option ℕ
opening_of found = option_map (λ (lot : OpenLot). lot.opening) found

-- a list of lots, under keys or at positions, with their units alone
abbrev pub units_in : {K : Type 0} → List (K × OpenLot) → List (K × ℤ)
units_in lots = map (λ lot. (lot.0, lot.1.units)) lots

-- the rows of lots, each with its opening number; plain units have none
abbrev pub openings_in : List (Position × OpenLot) → List (Position × ℕ)
openings_in [] = []
openings_in (((commodity, None), lot) ∷ rows) = openings_in rows
openings_in (((commodity, Some key), lot) ∷ rows) = ((commodity, Some key), lot.opening) ∷ openings_in rows

-- lots as they are listed
abbrev pub listed : List (LotKey × OpenLot) → List Lot
listed lots = map (λ (lot : LotKey × OpenLot). record { key = lot.0; units = lot.1.units; opening = lot.1.opening }) lots

-- ---- holdings

-- what a holding has in the lot of that key, or plain
abbrev pub held_at : Holding → Option LotKey → Option OpenLot
held_at holding None = kept holding.plain 0
held_at holding (Some key) = lot_at holding.lots key

-- what the holdings have at a position
abbrev pub found : List (List ℕ × Holding) → Position → Option OpenLot
found holdings position = option_and_then (λ (holding : Holding). held_at holding position.1) (lookup (is_at (text_cmp position.0)) holdings)

-- the row of the plain units of a commodity, where it has some, with 0 in the place of an opening number
abbrev pub plain_rows : List ℕ → ℤ → List (Position × OpenLot)
plain_rows commodity units =
    if int_eq units (pos 0) then [] else ((commodity, None), record { units = units; opening = 0 }) ∷ []

-- the row of a lot of a commodity
abbrev pub lot_row : {V : Type 0} → List ℕ → LotKey × V → Position × V
lot_row commodity lot = ((commodity, Some lot.0), lot.1)

-- the rows of the lots of a commodity
abbrev pub lot_rows : {V : Type 0} → List ℕ → List (LotKey × V) → List (Position × V)
lot_rows commodity [] = []
lot_rows commodity (lot ∷ lots) = lot_row commodity lot ∷ lot_rows commodity lots

-- the rows of one holding: that of its plain units, then those of its lots
abbrev pub rows_of : List ℕ → Holding → List (Position × OpenLot)
rows_of commodity holding = plain_rows commodity holding.plain ++ lot_rows commodity holding.lots

-- the rows of all holdings, in the order of their positions
abbrev pub rows : List (List ℕ × Holding) → List (Position × OpenLot)
rows [] = []
rows (entry ∷ entries) = plain_rows entry.0 entry.1.plain ++ (lot_rows entry.0 entry.1.lots ++ rows entries)

-- an inventory in which these lots of a commodity are set, one after another
abbrev pub with_lots : Stock → List ℕ → List (LotKey × OpenLot) → Stock
with_lots stock commodity [] = stock
with_lots stock commodity (lot ∷ lots) =
    with_lots (with_lot stock (commodity, Some lot.0) lot.1.units lot.1.opening) commodity lots

-- those of lots that units may take: of the other sign, where the specification fits
abbrev pub takeable : ℤ → CostSpec → List (LotKey × ℤ) → List (LotKey × ℤ)
takeable units spec lots =
    filter (λ (lot : LotKey × ℤ). other_sign lot.1 units) (filter (λ (lot : LotKey × ℤ). fits spec lot.0) lots)

-- the same of lots as they are listed
abbrev pub takeable_lots : ℤ → CostSpec → List Lot → List Lot
takeable_lots units spec lots =
    filter (λ (lot : Lot). other_sign lot.units units) (filter (λ (lot : Lot). fits spec lot.key) lots)

-- setting units at a key stores a new lot
abbrev pub NeedsLot : Holding → Option LotKey → Type 0
NeedsLot holding None = ⊥
NeedsLot holding (Some key) = lot_at holding.lots key ≡ None

-- setting units at a position stores a new lot, or a new commodity
abbrev pub NeedsPosition : List (List ℕ × Holding) → Position → Type 0
NeedsPosition holdings (commodity, None) = lookup (is_at (text_cmp commodity)) holdings ≡ None
NeedsPosition holdings (commodity, Some key) = found holdings (commodity, Some key) ≡ None

-- a holding has its lots in order, none of them with zero units
pub record IsHolding (holding : Holding) : Type 0 where
  pub sorted : IsStrictlySortedBy lot_cmp (keys_of holding.lots)
  pub nonzero : (key : LotKey)
      → units_of (lot_at holding.lots key) ≡ non_zero (unwrap_or (units_of (lot_at holding.lots key)) (pos 0))

-- something is held in a holding
abbrev pub HoldsSomething : Holding → Type 0
HoldsSomething holding = (key : Option LotKey) × IsSome (held_at holding key)

-- holdings in the order of their commodities
pub record AreHoldings (holdings : List (List ℕ × Holding)) : Type 0 where
  pub sorted : IsStrictlySortedBy text_cmp (keys_of holdings)
  pub each : (commodity : List ℕ) → IfSome (lookup (is_at (text_cmp commodity)) holdings) IsHolding

-- no holding is kept of which nothing is left
abbrev pub NoneIsEmpty : List (List ℕ × Holding) → Type 0
NoneIsEmpty holdings = (commodity : List ℕ) → IfSome (lookup (is_at (text_cmp commodity)) holdings) HoldsSomething

-- the same of every commodity but one
abbrev pub NoOtherIsEmpty : List ℕ → List (List ℕ × Holding) → Type 0
NoOtherIsEmpty commodity holdings = (other : List ℕ) → is_eq (text_cmp commodity other) ≡ false
    → IfSome (lookup (is_at (text_cmp other)) holdings) HoldsSomething

-- two lists of holdings have the same at each position
abbrev pub AreAlike : List (List ℕ × Holding) → List (List ℕ × Holding) → Type 0
AreAlike old new = (position : Position) → found new position ≡ found old position

-- the holdings after a position was set to what is kept there: at every other position they have what they had
abbrev pub ChangesPosition : List (List ℕ × Holding) → List (List ℕ × Holding) → Position → Option OpenLot → Type 0
ChangesPosition old new position lot = (other : Position)
    → found new other ≡ if is_eq (position_cmp position other) then lot else found old other

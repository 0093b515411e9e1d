-- What an inventory holds: a finite map from positions to units that aren't zero (docs/RULES.md, Inventory).
use Rattle.std.specs.Prelude.{◌≡◌, ◌≢◌, ℕ, Bool, ◌&&◌, ◌||◌, if◌then◌else◌, List, [], ◌∷◌, filter, map, sum_by, Option, None, Some, is_some, ℤ, pos, ◌+ℤ◌, int_lt, unsigned_abs}
use Rattle.std.specs.declared.cmp.Ordering.{Ordering}
use Rattle.std.specs.BTreeMap.{is_at}
use Rattle.std.specs.Coded.{Coded, code_by, coded×, coded_option, coded_ℕ, coded_ℤ}
use Rattle.std.specs.FinMap as finite
use Rattle.std.specs.List.{list_any}
use Rattle.std.specs.List.Sorted.{IsStrictlySortedBy}
use Rattle.std.specs.Map.{keys_of, lookup, values_of}
use Rattle.std.specs.Option.{option_cmp, unwrap_or}
use Rattle.std.specs.Ordering.{int_eq, is_eq, ordering_then}
use Rattle.lot_num.specs.Sum.{sum_of}
use Rattle.lot_base.specs.Text.{coded_text, text_cmp}
use Rattle.lot_cost.specs.declared.cost_spec.CostSpec.{CostSpec}
use Rattle.lot_cost.specs.declared.lot_key.LotKey.{LotKey}
use Rattle.lot_cost.specs.CostSpec.{fits}
use Rattle.lot_cost.specs.LotKey.{lot_cmp, coded_key}

-- ---- positions and what they hold

-- where units are held: a commodity, and the key of a lot, or none for the plain units
abbrev pub Position : Type 0
Position = List ℕ × Option LotKey

-- the order of positions: by commodity, the plain one first, then the lots in the order of their keys
abbrev pub position_cmp : Position → Position → Ordering
position_cmp p q = ordering_then (text_cmp p.0 q.0) (option_cmp lot_cmp p.1 q.1)

abbrev pub coded_position : Coded Position
coded_position = coded× coded_text (coded_option coded_key)

-- an inventory: the units of each position that holds some
abbrev pub Held : Type 0
Held = finite.FinMap position_cmp ℤ

-- the units of a position, zero where it holds none
abbrev pub units_at : Held → Position → ℤ
units_at held position = unwrap_or (finite.get held position) (pos 0)

-- what is kept of units at a position: nothing where they are zero
abbrev pub non_zero : ℤ → Option ℤ
non_zero units = if int_eq units (pos 0) then None else Some units

-- the inventory with these units at a position, which is held no more where they are zero
abbrev pub with_units : Held → Position → ℤ → Held
with_units held position units = if int_eq units (pos 0) then finite.remove held position else finite.insert held position units

-- the inventory with these units added at a position
abbrev pub added : Held → Position → ℤ → Held
added held position units = with_units held position (units_at held position +ℤ units)

-- ---- opening numbers

-- the opening number of each lot that is held; plain units have none
abbrev pub Opened : Type 0
Opened = finite.FinMap position_cmp ℕ

-- an inventory: the units of each position that holds some, and the opening number of each lot among them
pub record Stock : Type 0 where
  pub held : Held
  pub opened : Opened

abbrev stock_of : Held × Opened → Stock
stock_of maps = record { held = maps.0; opened = maps.1 }

abbrev pub coded_stock : Coded Stock
coded_stock =
    code_by (Held × Opened) (coded× (finite.code coded_position coded_ℤ) (finite.code coded_position coded_ℕ))
    (λ stock. (stock.held, stock.opened)) stock_of (λ stock _. stock)

-- an inventory that holds nothing
abbrev pub nothing : Stock
nothing = record { held = finite.empty; opened = finite.empty }

-- the opening number of a lot, none where it isn't held
abbrev pub opened_at : Stock → List ℕ → LotKey → Option ℕ
opened_at stock commodity lot = finite.get stock.opened (commodity, Some lot)

-- the same as a number, 0 where it isn't held
abbrev pub opening_at : Stock → List ℕ → LotKey → ℕ
opening_at stock commodity lot = unwrap_or (opened_at stock commodity lot) 0

-- a lot has an opening number exactly where it is held
abbrev pub NumbersLots : Stock → Type 0
NumbersLots stock = (commodity : List ℕ) (lot : LotKey)
    → is_some (opened_at stock commodity lot) ≡ is_some (finite.get stock.held (commodity, Some lot))

-- the opening numbers once a position holds these units: a lot that holds some has that number
abbrev pub with_opening : Opened → Position → ℤ → ℕ → Opened
with_opening opened (commodity, None) units opening = opened
with_opening opened (commodity, Some key) units opening =
    if int_eq units (pos 0) then finite.remove opened (commodity, Some key)
    else finite.insert opened (commodity, Some key) opening

-- the inventory with these units at a position, opened under that number where it is a lot
abbrev pub with_lot : Stock → Position → ℤ → ℕ → Stock
with_lot stock position units opening = record {
  held = with_units stock.held position units;
  opened = with_opening stock.opened position units opening;
}

-- the inventory with these units added at a position: a lot that isn't held is opened under that number, and one that is
-- keeps its own
abbrev pub added_lot : Stock → Position → ℤ → ℕ → Stock
added_lot stock position units opening =
    with_lot stock position (units_at stock.held position +ℤ units) (unwrap_or (finite.get stock.opened position) opening)

-- ---- memory

-- adding units at a position stores a new lot, or the first position of its commodity
abbrev pub StoresMore : Held → Position → ℤ → Type 0
StoresMore held (commodity, None) units = (units ≢ pos 0) × ((key : Option LotKey) → finite.get held (commodity, key) ≡ None)
StoresMore held (commodity, Some key) units = (units ≢ pos 0) × (finite.get held (commodity, Some key) ≡ None)

-- ---- the lots of one commodity

-- a row's lot, where the row is of a lot of the commodity
abbrev pub lots_in : List ℕ → List (Position × ℤ) → List (LotKey × ℤ)
lots_in commodity [] = []
lots_in commodity (((other, None), units) ∷ rows) = lots_in commodity rows
lots_in commodity (((other, Some key), units) ∷ rows) =
    if is_eq (text_cmp commodity other) then (key, units) ∷ lots_in commodity rows else lots_in commodity rows

-- the lots of a commodity with their units, in the order of their keys
unfoldable pub lots_of : Held → List ℕ → List (LotKey × ℤ)
lots_of held commodity = lots_in commodity (finite.entries held)

-- whether a position is a lot of the commodity
abbrev pub is_lot_of : List ℕ → Position → Bool
is_lot_of commodity position = is_eq (text_cmp commodity position.0) && is_some position.1

-- the inventory of the lots of a commodity alone
abbrev pub only_lots : Held → List ℕ → Held
only_lots held commodity = finite.retain_keys held (is_lot_of commodity)

-- the lots of a commodity that fit a specification, in the order of their keys
abbrev pub matching : Held → List ℕ → CostSpec → List (LotKey × ℤ)
matching held commodity spec = filter (λ (lot : LotKey × ℤ). fits spec lot.0) (lots_of held commodity)

-- whether one number is below zero and the other above it
abbrev pub other_sign : ℤ → ℤ → Bool
other_sign a b = (int_lt a (pos 0) && int_lt (pos 0) b) || (int_lt (pos 0) a && int_lt b (pos 0))

-- a specification with that number
abbrev pub with_number : Option ℕ → CostSpec → CostSpec
with_number number spec = record { number = number; currency = spec.currency; day = spec.day; label = spec.label }

-- the lots of a commodity that units may take: those of the other sign that the specification fits, in the order of
-- their keys
abbrev pub fitting : Held → List ℕ → ℤ → CostSpec → List (LotKey × ℤ)
fitting held commodity units spec = filter (λ (lot : LotKey × ℤ). other_sign lot.1 units) (matching held commodity spec)

-- what lots hold together, sign aside
abbrev pub held_in : List (LotKey × ℤ) → ℕ
held_in lots = sum_by (λ (lot : LotKey × ℤ). unsigned_abs lot.1) lots

-- whether some lot of the commodity has the other sign
abbrev pub reduces : Held → List ℕ → ℤ → Bool
reduces held commodity units = list_any (λ lot. other_sign lot units) (values_of (lots_of held commodity))

-- the units of all lots of the commodity
abbrev pub sum : Held → List ℕ → ℤ
sum held commodity = sum_of (values_of (lots_of held commodity))

-- ---- all that is held

-- rows of a commodity, the key of a lot or none, and units, as entries of the map
abbrev pub as_entries : List (List ℕ × Option LotKey × ℤ) → List (Position × ℤ)
as_entries rows = map (λ (row : List ℕ × Option LotKey × ℤ). ((row.0, row.1), row.2)) rows

-- ---- laws

-- the lots that a specification fits come in the order of their keys, each once
abbrev pub MatchingLotsAreDistinct : Type 0
MatchingLotsAreDistinct = (held : Held) → (commodity : List ℕ) → (spec : CostSpec) → IsStrictlySortedBy lot_cmp (keys_of (matching held commodity spec))

-- the lots of a commodity are what the map holds under their keys
abbrev pub LotsAreThoseOfTheMap : Type 0
LotsAreThoseOfTheMap = (held : Held) → (commodity : List ℕ) → (key : LotKey)
    → lookup (is_at (lot_cmp key)) (lots_of held commodity) ≡ finite.get held (commodity, Some key)

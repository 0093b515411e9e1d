-- The opening numbers of the lots that legs leave units in, as rows.
use Rattle.std.specs.Prelude.{◌≡◌, ◌≢◌, if◌then◌else◌, List, [], ◌∷◌, ◌++◌, map, All, Any, Contains, Option, None, Some, IsSome, ℤ, pos, ◌+ℤ◌}
use Rattle.std.specs.BTreeMap.{BTreeMap, get}
use Rattle.std.specs.List.Sorted.{IsStrictlySortedBy}
use Rattle.std.specs.Option.{option_map}
use Rattle.std.specs.Ordering.{int_eq}
use Rattle.lot_num.specs.Amount.{IsUnits}
use Rattle.lot_cost.specs.declared.lot_key.LotKey.{LotKey}
use Rattle.lot_book.specs.declared.leg.Leg.{Leg}
use Rattle.lot_book.specs.declared.leg.Position.{Position}
use Rattle.lot_book.specs.Leg.{position_cmp, sum_at}
use Rattle.lot_book.specs.OpeningNumber.{HasOpeningNumber, posting_number}
use Rattle.lot_migrate.specs.declared.opening_numbers.LotOpening.{LotOpening}
use Rattle.lot_migrate.specs.declared.opening_numbers.OpenLot.{OpenLot}
use Rattle.lot_migrate.specs.declared.opening_numbers.OpenLots.{OpenLots}

-- ---- The rows.

-- the lot of a row
abbrev pub lot_of : LotOpening → Position
lot_of row = record { account = row.account; commodity = row.commodity; lot = Some row.lot }

-- Rows list the openings of the lots in which legs leave units. Each row has the opening number of its lot, and each lot in
-- which some units are left has a row. The rows are in the order of the lots, so that no lot has two.
pub record ListsOpenings (legs : List Leg) (rows : List LotOpening) : Type 0 where
  pub numbers : All (λ (row : LotOpening). HasOpeningNumber legs (lot_of row) row.opening) rows
  pub every_lot : (lot : Position) → IsSome lot.lot → sum_at legs lot ≢ pos 0 → Contains (map lot_of rows) lot
  pub in_order : IsStrictlySortedBy position_cmp (map lot_of rows)

-- ---- What is kept of each lot on the way.

-- the units that are kept of a lot
abbrev pub units_kept : Option OpenLot → ℤ
units_kept None = pos 0
units_kept (Some lot) = lot.units

-- what is kept of a lot is the units that legs leave in it, which are some, and its opening number;
-- nothing is kept of a lot that holds nothing
abbrev pub IsKept : List Leg → Position → Option OpenLot → Type 0
IsKept legs lot None = sum_at legs lot ≡ pos 0
IsKept legs lot (Some kept) =
    (kept.units ≡ sum_at legs lot) × (kept.units ≢ pos 0) × HasOpeningNumber legs lot kept.opening

-- each lot is kept so
abbrev pub KeepsLots : List Leg → BTreeMap Position OpenLot → Type 0
KeepsLots legs lots = (lot : Position) → IsSome lot.lot → IsKept legs lot (get position_cmp lots lot)

-- what is kept of legs that were given one after another: what they leave in each lot, and nothing
-- before a leg at a lot
pub record Keeps (legs : List Leg) (kept : OpenLots) : Type 0 where
  pub lots : KeepsLots legs kept.lots
  pub begun : kept.lots.entries ≢ [] → Any (λ (leg : Leg). IsSome leg.position.lot) legs

-- one more leg behind legs takes the units of its lot out of their range
abbrev pub LeavesRange : List Leg → Leg → Type 0
LeavesRange legs leg =
    IsSome leg.position.lot × (IsUnits (sum_at (legs ++ leg ∷ []) leg.position) → ⊥)

-- a lot with one more leg, which opens it where it holds nothing
abbrev pub lot_with : OpenLot → Leg → OpenLot
lot_with lot leg = record {
  units = lot.units +ℤ leg.units;
  opening = if int_eq lot.units (pos 0) then posting_number leg else lot.opening;
}

-- the row of what is kept of a position, where that is a lot
abbrev pub row_of : Position × OpenLot → Option LotOpening
row_of kept = option_map (λ (lot : LotKey). record {
  account = kept.0.account;
  commodity = kept.0.commodity;
  lot = lot;
  opening = kept.1.opening;
}) kept.0.lot

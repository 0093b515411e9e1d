-- What was held at the end of a day: the sums of the legs up to it, position by position (docs/FORMATS.md, Holdings).
use Rattle.std.specs.Prelude.{◌≡◌, ◌⊎◌, ◌≤ℤ◌, ◌<ℤ◌, IsTrue, List, [], ◌∷◌, ◌++◌, map, ℤ, pos, ◌+ℤ◌, FitsSigned, Result, Ok, Err}
use Rattle.std.specs.BTreeMap.{BTreeMap, get}
use Rattle.std.specs.Int.{w128}
use Rattle.std.specs.List.{AllByRecursion}
use Rattle.std.specs.List.Sorted.{IsStrictlySortedBy}
use Rattle.std.specs.Map.{lookup}
use Rattle.std.specs.Option.{unwrap_or}
use Rattle.lot_num.specs.Amount.{IsUnits}
use Rattle.lot_inv.specs.Inventory.{non_zero}
use Rattle.lot_book.specs.Facts.{Entry}
use Rattle.lot_book.specs.Holding.{entry_of, position_of}
use Rattle.lot_book.specs.Leg.{position_cmp, same_position, sum_at}
use Rattle.lot_book.specs.declared.holding.Holding.{Holding}
use Rattle.lot_book.specs.declared.leg.Position.{Position}
use Rattle.lot_legs.specs.Legs.{day_of, is_by, leg_in, legs_by}
use Rattle.lot_legs.specs.declared.leg.DatedLeg.{DatedLeg}
use Rattle.lot_report.specs.declared.fault.ReportFault.{ReportFault}
use Rattle.lot_report.specs.declared.fault.ReportFault.TheVariants.{Range, Write, Memory}
use Rattle.lot_position.specs.declared.positions.Positions.{Positions}

-- ---- what was held

-- what a position holds at the end of a day: the sum of the units of all legs there, up to the day
abbrev pub held_at : ℤ → List DatedLeg → Position → ℤ
held_at day legs position = sum_at (map leg_in (legs_by day legs)) position

-- Rows list what was held at the end of a day: each position that holds some units once, in the order of the positions, and no
-- other.
pub record ListsHeld (day : ℤ) (legs : List DatedLeg) (rows : List Holding) : Type 0 where
  pub in_order : IsStrictlySortedBy position_cmp (map position_of rows)
  pub each : (position : Position) → lookup (same_position position) (map entry_of rows) ≡ non_zero (held_at day legs position)

-- the sums at the end of a day are in the range of units, whatever they were on the way
abbrev pub AreInRange : ℤ → List DatedLeg → Type 0
AreInRange day legs = (position : Position) → IsUnits (held_at day legs position)

-- ---- days

-- no entry is of a later day
abbrev pub IsPastAll : ℤ → List Entry → Type 0
IsPastAll day entries = AllByRecursion (λ (entry : Entry). day_of entry.command ≤ℤ day) entries

-- each leg is of a later day
abbrev pub IsBeforeAll : ℤ → List DatedLeg → Type 0
IsBeforeAll day legs = AllByRecursion (λ (leg : DatedLeg). day <ℤ leg.day) legs

-- ---- what is kept

-- the sum of a position, zero where none is kept
abbrev pub kept_at : BTreeMap Position ℤ → Position → ℤ
kept_at sums position = unwrap_or (get position_cmp sums position) (pos 0)

-- the sums of these legs at the end of that day are kept, where they aren't zero
pub record Keeps (day : ℤ) (legs : List DatedLeg) (positions : Positions) : Type 0 where
  pub day_is : positions.day ≡ day
  pub each : (position : Position) → get position_cmp positions.sums position ≡ non_zero (held_at day legs position)

-- units for which there may be no room behind a sum: nothing is kept before, or the new sum leaves 128 bits
abbrev pub NeedsRoom : ℤ → ℤ → Type 0
NeedsRoom sum units = (sum ≡ pos 0) ⊎ ¬ FitsSigned w128 (sum +ℤ units)

-- a leg that isn't of a later day, for which there may be no room
abbrev pub NeedsMemory : ℤ → List DatedLeg → DatedLeg → Type 0
NeedsMemory day legs leg = IsTrue (is_by day leg.day) × NeedsRoom (held_at day legs (leg_in leg).position) leg.units

-- the row of a position
abbrev pub holding_at : Position → ℤ → Holding
holding_at position units =
    record { account = position.account; commodity = position.commodity; lot = position.lot; units = units }

-- What becomes of rows with that of one position more. Its units are looked at first: memory is lacked only where they are in
-- range.
abbrev pub PushesRow : Position → ℤ → List Holding → List Holding → Result (Unit {0}) ReportFault → Type 0
PushesRow position units old new (Ok done) = IsUnits units × (new ≡ old ++ holding_at position units ∷ [])
PushesRow position units old new (Err Range) = ¬ IsUnits units
PushesRow position units old new (Err Write) = ⊥
PushesRow position units old new (Err Memory) = IsUnits units

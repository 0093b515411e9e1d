-- The place of a walk over the legs of a book.
use Rattle.std.specs.Prelude.{◌≡◌, ◌≤◌, List, [], ◌∷◌, ◌++◌, map, MatchOption, Option, None, Some, ℕ, ⊤}
use Rattle.std.specs.List.{AllByRecursion}
use Rattle.lot_book.specs.Facts.{Entry}
use Rattle.lot_page.specs.Cursor.{IsBehind}
use Rattle.lot_rows.specs.Leg.{leg_cells}
use Rattle.lot_rows.specs.Tables.{Tables}
use Rattle.lot_rows.specs.declared.entry.EntryRow.{EntryRow}
use Rattle.lot_legs.specs.Days.{AreBehind, HasDay, HasText, IsAt}
use Rattle.lot_legs.specs.Legs.{dated_legs, row_in}
use Rattle.lot_legs.specs.declared.days.EntryDay.{EntryDay}
use Rattle.lot_legs.specs.declared.leg.DatedLeg.{DatedLeg}
use Rattle.lot_legs.specs.declared.place.LegsPlace.{LegsPlace}

-- a leg is told as it is, and each is good
abbrev pub shown_leg : DatedLeg → DatedLeg
shown_leg leg = leg

abbrev pub IsAnyLeg : DatedLeg → Type 0
IsAnyLeg leg = Unit {0}

-- ---- the rows of the table, whatever it stands for

-- the entry that was looked up last is that of the last leg
abbrev pub IsOfLast : Option EntryDay → List DatedLeg → Type 0
IsOfLast last given = (front : List DatedLeg) (leg : DatedLeg) → given ≡ front ++ leg ∷ [] → IsAt last leg.entry

-- the place is behind the rows of these legs, and some rows of entries are read
pub record IsBehindLegRows (place : LegsPlace) (tables : Tables) (asked : Unit {0}) (given : List DatedLeg) : Type 0 where
  pub legs : IsBehind leg_cells (map row_in given) tables.leg place.legs
  pub passed : List EntryRow
  pub read : AreBehind place.days tables.entry passed
  pub days : AllByRecursion (λ (leg : DatedLeg). HasDay tables.entry leg.entry leg.day) given
  pub last : IsOfLast place.days.last given

-- where the place is behind a leg, this is the text of the entry of that leg
abbrev pub IsLastText : LegsPlace → Option (List ℕ) → Type 0
IsLastText place text =
    (tables : Tables) (asked : Unit {0}) (given : List DatedLeg) (leg : DatedLeg) → IsBehindLegRows place tables asked (given ++ leg ∷ [])
    → MatchOption text ⊥ (HasText tables.entry leg.entry)

-- ---- the legs of a book

-- a leg of the entry that was looked up last, or of a later one
abbrev pub IsFrom : Option EntryDay → DatedLeg → Type 0
IsFrom None leg = ⊤
IsFrom (Some last) leg = last.entry ≤ leg.entry

-- the place is behind these legs of the book, and the others are left
pub record IsBehindLegs (place : LegsPlace) (tables : Tables) (asked : Unit {0}) (entries : List Entry) (given : List DatedLeg) : Type 0 where
  pub rows : IsBehindLegRows place tables asked given
  pub left : List DatedLeg
  pub all : given ++ left ≡ dated_legs entries
  pub from : AllByRecursion (IsFrom place.days.last) left

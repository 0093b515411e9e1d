-- The days and the time that a row says (docs/FORMATS.md, Profiles).
use Rattle.std.specs.Prelude.{ℕ, ℤ, List, Option, None, Some, Ok}
use Rattle.lot_field.specs.Days.{moment_of, time_of}
use Rattle.lot_field.specs.Field.{cut}
use Rattle.lot_field.specs.declared.days.Moment.{Moment}
use Rattle.lot_profile.specs.declared.role.Role.{Role}
use Rattle.lot_profile.specs.declared.role.Role.TheVariants as role
use Rattle.lot_sheet.specs.Sheet.{SheetRow}
use Rattle.lot_roles.specs.Parts.{text_of}
use Rattle.lot_roles.specs.Reading.{Read, ◌>>=◌, if_any, or_fault}
use Rattle.lot_roles.specs.declared.fault.RowFault.TheVariants.{Missing, NotDay, NotTime}
use Rattle.lot_roles.specs.declared.rules.Rules.{Rules}

-- the day that a text says, and the time behind it
abbrev pub as_moment : Rules → Role → List ℕ → Read Moment
as_moment rules role text = or_fault (NotDay role) (moment_of rules.profile.now.file.day.parts text)

-- the same day; the time behind it is read over
abbrev pub as_day : Rules → Role → List ℕ → Read ℤ
as_day rules role text = as_moment rules role text >>= λ (moment : Moment). Ok moment.day

-- the day of a role
abbrev pub day_of : Rules → SheetRow → Role → Read (Option ℤ)
day_of rules row role = if_any (as_day rules role) (text_of rules row role)

-- the time of a row: that beside the day, or else the one behind it
abbrev pub time_beside : Option ℕ → Option (List ℕ) → Read (Option ℕ)
time_beside behind None = Ok behind
time_beside behind (Some text) = or_fault NotTime (time_of (cut text)) >>= λ time. Ok (Some time)

-- the day of a row, and perhaps its time
abbrev pub moment_in : Rules → SheetRow → Read Moment
moment_in rules row =
    or_fault (Missing role.Day) (text_of rules row role.Day) >>= λ text.
    as_moment rules role.Day text >>= λ (moment : Moment).
    time_beside moment.time (text_of rules row role.Time) >>= λ time.
    Ok (record { day = moment.day; time = time })

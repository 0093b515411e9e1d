-- Part by part.
use Rattle.std.proofs.Common.{ℕ, List, Option, false, ap, ◌∙◌}
use Rattle.std.specs.Option.{option_and_then}
use Rattle.lot_base.specs.Day.{date_number}
use Rattle.lot_field.specs.Days.{moment_at, no_date, read_parts, time_behind}
use Rattle.lot_field.specs.declared.days.Date.{Date}
use Rattle.lot_field.specs.declared.days.Moment.{Moment}
use Rattle.lot_field.proofs.WrittenLemmas.{date-read}
use Rattle.lot_field.proofs.laws.a_written_day_is_read.Goals as goal

abbrev moment_by : Option (Date × List ℕ) → Option Moment
moment_by read = option_and_then (λ (r : Date × List ℕ). moment_at (date_number (r.0.year, r.0.month, r.0.day)) (time_behind r.1)) read

pub returns : goal.returns
returns c = λ w parts field rest are once is.
    ap (λ (text : List ℕ). moment_by (read_parts false parts no_date text)) is ∙ ap moment_by (date-read w are parts rest once)

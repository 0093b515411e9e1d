use Rattle.std.proofs.Common.{◌≡◌, pos, None, Some, arith, ap, ◌∙◌, to_z, w8}
use Rattle.std.specs.Prelude.{option_and_then}
use Rattle.std.specs.Int.{w16}
use Rattle.std.proofs.lemmas.Int.{to_z_pos}
use Rattle.lot_base.specs.Day.{named_date, named_day, date_number}
use Rattle.lot_base.proofs.DateLemmas.{date_number-result}
use Rattle.lot_base.proofs.day.Day.parse.Goals as goal

pub returns : goal.returns
unfolding named_day
returns c =
    let y = c.in-Some.year in
    let m = c.in-Some.month in
    let d = c.in-Some.day in
    let bounds = c.in-Some.ensures.bounds in
    let year : to_z w16 y ≡ pos y = to_z_pos w16 y (omega (arith, bounds.0)) in
    let month : to_z w8 m ≡ pos m = to_z_pos w8 m (omega (arith, bounds.1)) in
    let day : to_z w8 d ≡ pos d = to_z_pos w8 d (omega (arith, bounds.2)) in
    let named : Some (y, m, d) ≡ named_date c.args.text.now = rw c.as_bytes.ensures.value at c.in-Some.ensures.value in
    date_number-result c.new.result y m d (rw (year, month, day) at c.new.ensures) ∙ ap (option_and_then date_number) named

pub returns-in_default : goal.returns-in_default
unfolding named_day
returns-in_default c =
    let none : None ≡ named_date c.args.text.now = rw c.as_bytes.ensures.value at c.in_default.ensures.value in
    ap (option_and_then date_number) none

use Rattle.std.proofs.Common.{arith, pos, ◌≤ℤ◌}
use Rattle.jiff_core.proofs.DateLemmas.{civil}
use Rattle.jiff_core.proofs.SignedLemmas.{signed_arith}
use Rattle.lot_base.proofs.DayLemmas.{date-in_range}
use Rattle.lot_base.proofs.day.Day.new.Goals as goal

pub invariant_of-result : goal.invariant_of-result
invariant_of-result c =
    let date = c.in-Ok.date in
    let low : pos 1 ≤ℤ date.year = omega (arith, signed_arith, c.in-Ok.ensures.value) in
    let range = date-in_range date.year date.month date.day (civil date) low in
    let number = rw c.to_plain.ensures at c.to_unix_epoch_day.ensures.value in
    (omega (arith, signed_arith), omega (arith, signed_arith))

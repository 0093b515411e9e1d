use Rattle.std.proofs.Common.{arith, pos}
use Rattle.std.proofs.lemmas.Int.{by_lt_z}
use Rattle.jiff_core.proofs.DateLemmas.{civil}
use Rattle.jiff_core.proofs.SignedLemmas.{signed_arith}
use Rattle.lot_base.proofs.DayLemmas.{date-before_range}
use Rattle.lot_base.proofs.day.Day.date.Goals as goal

pub returns-clause-year : goal.returns-clause-year
returns-clause-year c =
    let date = c.in-Ok.date in
    rw c.from_plain.ensures
    (by_lt_z date.year (pos 1)
    (λ lt. absurd (omega (arith, signed_arith, c.in-Ok.ensures.value, date-before_range date.year date.month date.day (civil date) lt)))
    (λ le. le))

use Rattle.std.proofs.Common.{◌≡◌, drop}
use Rattle.lot_page_report.specs.Sections.{number_of}
use Rattle.lot_page_report.proofs.sums.number_of.Given as goal

-- what is left goes on from the number so far
abbrev pub invariant-loop-digit : goal.invariant-loop-digit
invariant-loop-digit l = number_of l.number (drop l.digit-index l.digits) ≡ number_of 0 l.text

use Rattle.std.proofs.Common.{◌≡◌}
use Rattle.lot_page_report.specs.Sections.{has_values}
use Rattle.lot_page_report.proofs.held.has_values.Given as goal

-- what is left decides
abbrev pub invariant-loop-total : goal.invariant-loop-total
invariant-loop-total l = has_values l.total-iterator ≡ has_values l.totals.entries

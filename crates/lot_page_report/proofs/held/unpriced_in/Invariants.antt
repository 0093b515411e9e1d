use Rattle.std.proofs.Common.{◌≡◌, ◌≤◌, take}
use Rattle.lot_page_report.specs.Sections.{unpriced_in}
use Rattle.lot_page_report.proofs.held.unpriced_in.Given as goal

-- how many there are among the first rows
abbrev pub invariant-loop-row : goal.invariant-loop-row
invariant-loop-row l = (l.count ≡ unpriced_in (take l.row-index l.rows)) × (l.count ≤ l.row-index)

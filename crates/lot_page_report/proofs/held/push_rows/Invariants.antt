use Rattle.std.proofs.Common.{◌≡◌, ◌++◌, drop}
use Rattle.std.specs.Prelude.{None}
use Rattle.std.specs.Option.{option_copied}
use Rattle.std.specs.String.{string_bytes}
use Rattle.lot_page_report.specs.Sections.{rows_behind}
use Rattle.lot_page_report.proofs.held.push_rows.Given as goal

-- what is appended and what is left are all of it
abbrev pub invariant-loop-row : goal.invariant-loop-row
invariant-loop-row l =
    string_bytes l.text ++ rows_behind l.totals.entries (option_copied l.before) (drop l.row-index l.rows)
    ≡ string_bytes l.initial.text ++ rows_behind l.totals.entries None l.rows

use Rattle.std.proofs.Common.{◌≡◌, ◌++◌, map}
use Rattle.std.specs.List.{flat_map}
use Rattle.std.specs.String.{string_bytes}
use Rattle.lot_tally.specs.Table.{shown}
use Rattle.lot_page_report.specs.Sections.{year_row}
use Rattle.lot_page_report.proofs.sums.push_year_rows.Given as goal

-- what is appended and what is left are all of it
abbrev pub invariant-loop-key : goal.invariant-loop-key
invariant-loop-key l =
    string_bytes l.text ++ flat_map (year_row l.currency) (map shown l.key-iterator)
    ≡ string_bytes l.initial.text ++ flat_map (year_row l.currency) (map shown l.rows.entries)

use Rattle.std.proofs.Common.{◌≡◌, ◌++◌, map}
use Rattle.std.specs.List.{flat_map}
use Rattle.std.specs.String.{string_bytes}
use Rattle.lot_tally.specs.Table.{shown}
use Rattle.lot_page_report.specs.Sections.{total_row}
use Rattle.lot_page_report.proofs.sums.totals_text.Given as goal

-- what is appended and what is left are all of it
abbrev pub invariant-loop-key : goal.invariant-loop-key
invariant-loop-key l =
    string_bytes l.text ++ flat_map total_row (map shown l.key-iterator) ≡ flat_map total_row (map shown l.currencies.entries)

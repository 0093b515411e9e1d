use Rattle.std.proofs.Common.{◌≡◌, ◌++◌}
use Rattle.std.specs.List.{flat_map}
use Rattle.std.specs.String.{string_bytes}
use Rattle.lot_page_report.specs.Sections.{lot_total}
use Rattle.lot_page_report.proofs.held.totals_text.Given as goal

-- what is appended and what is left are all of it
abbrev pub invariant-loop-currency : goal.invariant-loop-currency
invariant-loop-currency l = string_bytes l.text ++ flat_map lot_total l.currency-iterator ≡ flat_map lot_total l.totals.entries

use Rattle.std.proofs.Common.{drop, map}
use Rattle.std.specs.String.{string_bytes}
use Rattle.lot_months.specs.Series.{shown}
use Rattle.lot_page_report.proofs.GoesLemmas.{Goes}
use Rattle.lot_page_report.specs.Sections.{AreCurrencyMonths}
use Rattle.lot_page_report.proofs.months.push_currencies.Given as goal

-- what is appended goes on with what is left
abbrev pub invariant-loop-one : goal.invariant-loop-one
invariant-loop-one l =
    Goes (λ left text. AreCurrencyMonths l.first.0 (map shown left) text) l.months (drop l.one-index l.months)
    (string_bytes l.initial.text) (string_bytes l.text)

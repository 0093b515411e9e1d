use Rattle.std.proofs.Common.{map}
use Rattle.std.specs.String.{string_bytes}
use Rattle.lot_tally.specs.Table.{shown}
use Rattle.lot_page_report.proofs.GoesLemmas.{Goes}
use Rattle.lot_page_report.specs.Sections.{AreCurrencyYears}
use Rattle.lot_page_report.proofs.sums.push_each_currency.Given as goal

-- what is appended goes on with what is left
abbrev pub invariant-loop-key : goal.invariant-loop-key
invariant-loop-key l =
    Goes (λ left text. AreCurrencyYears (map shown l.rows.entries) (map shown left) text) l.currencies.entries l.key-iterator
    (string_bytes l.initial.text) (string_bytes l.text)

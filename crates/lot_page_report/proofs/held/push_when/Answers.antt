use Rattle.std.proofs.Common.{[], ◌∷◌, refl}
use Rattle.std.specs.Prelude.{codes}
use Rattle.std.specs.String.{string_bytes}
use Rattle.lot_cells.proofs.AppendLemmas.{appended, pushed}
use Rattle.lot_page_report.specs.Parts.{asked_prices, page_in}
use Rattle.lot_page_report.specs.Text.{at_prices, of_day}
use Rattle.lot_page_report.proofs.held.push_when.Goals as goal

pub returns : goal.returns
returns c =
    appended c.push_str-2.result (string_bytes c.args.text.now)
    (codes "<p class=\"note\">At the end" ∷ (of_day c.args.scope.now.last) ∷ (at_prices (asked_prices (page_in c.args.scope.now))) ∷ [])
    (codes "</p>\n") (string_bytes c.push_prices_day.new.text) (string_bytes c.push_str-2.new.self)
    (_, c.in_ok-push_str.ensures.bytes, (_, c.in_ok-push_of_day.ensures, (_, rw c.asked_prices.ensures at c.in_ok-push_prices_day.ensures, refl)))
    (pushed c.push_str-2.result (string_bytes c.push_prices_day.new.text) (codes "</p>\n") (string_bytes c.push_str-2.new.self) c.push_str-2.ensures.bytes)

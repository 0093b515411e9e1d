use Rattle.std.proofs.Common.{◌≡◌, [], ◌∷◌, arith, refl, sym}
use Rattle.std.specs.Prelude.{codes}
use Rattle.std.specs.String.{string_bytes}
use Rattle.lot_cells.proofs.AppendLemmas.{appended, pushed}
use Rattle.lot_page_report.specs.Text.{count_html}
use Rattle.lot_page_report.proofs.SumsLemmas.{note_some}
use Rattle.lot_page_report.proofs.held.push_unpriced.Goals as goal

pub returns : goal.returns
returns c =
    let some : c.unpriced_in-count.result ≡ 0 → ⊥ = grind arith in
    rw (sym c.unpriced_in-count.ensures, note_some c.unpriced_in-count.result some)
    (appended c.push_str-2.result (string_bytes c.args.text.now)
    (codes "<p class=\"note\">Lots without a price: " ∷ count_html c.unpriced_in-count.result ∷ [])
    (codes ". They count in the total cost, not in the total value and gain.</p>\n") (string_bytes c.push_grouped_count.new.text) (string_bytes c.push_str-2.new.self)
    (_, c.in_ok-push_str.ensures.bytes, (_, c.in_ok-push_grouped_count.ensures, refl))
    (pushed c.push_str-2.result (string_bytes c.push_grouped_count.new.text) (codes ". They count in the total cost, not in the total value and gain.</p>\n") (string_bytes c.push_str-2.new.self)
    c.push_str-2.ensures.bytes))

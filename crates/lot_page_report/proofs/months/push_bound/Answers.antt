use Rattle.std.proofs.Common.{◌≡◌, [], ◌∷◌, arith, refl}
use Rattle.std.specs.Prelude.{codes, decimal, nat_lt, true}
use Rattle.std.specs.String.{string_bytes}
use Rattle.lot_cells.proofs.AppendLemmas.{appended, pushed}
use Rattle.lot_months.specs.Range.{most_months}
use Rattle.lot_page_report.specs.Text.{count_html}
use Rattle.lot_page_report.proofs.months.push_bound.Goals as goal

pub returns : goal.returns
returns c =
    let more : nat_lt most_months c.args.whole ≡ true = grind arith in
    rw (more)
    (appended c.push_str-3.result (string_bytes c.args.text.now)
    (codes "<p class=\"note\">The last " ∷ decimal most_months ∷ codes " of " ∷ count_html c.args.whole ∷ [])
    (codes " months</p>\n") (string_bytes c.push_grouped_count.new.text) (string_bytes c.push_str-3.new.self)
    (_, c.in_ok-push_str.ensures.bytes, (_, c.in_ok-push_count.ensures, (_, c.in_ok-push_str-2.ensures.bytes, (_, rw c.from.ensures at c.in_ok-push_grouped_count.ensures, refl))))
    (pushed c.push_str-3.result (string_bytes c.push_grouped_count.new.text) (codes " months</p>\n") (string_bytes c.push_str-3.new.self)
    c.push_str-3.ensures.bytes))

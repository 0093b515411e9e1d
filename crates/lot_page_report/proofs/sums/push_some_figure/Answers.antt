use Rattle.std.proofs.Common.{[], ◌∷◌, refl}
use Rattle.std.specs.Prelude.{codes}
use Rattle.std.specs.String.{string_bytes}
use Rattle.lot_cells.proofs.AppendLemmas.{appended, pushed}
use Rattle.lot_page_report.specs.Text.{name_html}
use Rattle.lot_page_report.proofs.sums.push_some_figure.Goals as goal

pub returns : goal.returns
returns c =
    appended c.push_str-4.result (string_bytes c.args.text.now)
    (codes "<figure>\n<figcaption>Gains in " ∷ (name_html c.args.currency.now) ∷ codes " by year</figcaption>\n" ∷ c.args.plot.now ∷ [])
    (codes "</figure>\n") (string_bytes c.push_str-3.new.self) (string_bytes c.push_str-4.new.self)
    (_, c.in_ok-push_str.ensures.bytes, (_, rw c.as_str.ensures.value at c.in_ok-push_name.ensures, (_, c.in_ok-push_str-2.ensures.bytes, (_, c.in_ok-push_str-3.ensures.bytes, refl))))
    (pushed c.push_str-4.result (string_bytes c.push_str-3.new.self) (codes "</figure>\n") (string_bytes c.push_str-4.new.self) c.push_str-4.ensures.bytes)

use Rattle.std.proofs.Common.{[], ◌∷◌, refl}
use Rattle.std.specs.Prelude.{codes}
use Rattle.std.specs.String.{string_bytes}
use Rattle.lot_cells.proofs.AppendLemmas.{appended, pushed}
use Rattle.lot_html.specs.Text.{escaped}
use Rattle.lot_base.specs.Day.{day_text}
use Rattle.lot_page_report.specs.Text.{count_html, within_html}
use Rattle.lot_page_report.proofs.head.push_some_days.Goals as goal

pub returns : goal.returns
returns c =
    appended c.push_str-3.result (string_bytes c.args.text.now)
    ((escaped (day_text c.args.days.first)) ∷ codes " to " ∷ (escaped (day_text c.args.days.last)) ∷ codes ", " ∷ (within_html c.args.within c.args.count) ∷ (count_html c.args.count) ∷ [])
    (codes " entries") (string_bytes c.push_grouped_count.new.text) (string_bytes c.push_str-3.new.self)
    (_, rw (c.as_str.ensures.value, c.in_ok-first.ensures) at c.in_ok-push_text.ensures, (_, c.in_ok-push_str.ensures.bytes, (_, rw (c.as_str-2.ensures.value, c.in_ok-last.ensures) at c.in_ok-push_text-2.ensures, (_, c.in_ok-push_str-2.ensures.bytes, (_, c.in_ok-push_within.ensures, (_, c.in_ok-push_grouped_count.ensures, refl))))))
    (pushed c.push_str-3.result (string_bytes c.push_grouped_count.new.text) (codes " entries") (string_bytes c.push_str-3.new.self) c.push_str-3.ensures.bytes)

use Rattle.std.proofs.Common.{[], ◌∷◌, refl}
use Rattle.std.specs.Prelude.{codes}
use Rattle.std.specs.String.{string_bytes}
use Rattle.lot_cells.proofs.AppendLemmas.{appended, pushed}
use Rattle.lot_page_report.specs.Parts.{page_in}
use Rattle.lot_page_report.specs.Sections.{held_inner}
use Rattle.lot_page_report.specs.Text.{when_html}
use Rattle.lot_page_report.proofs.held.push_held.Goals as goal

pub returns : goal.returns
returns c =
    appended c.push_str-2.result (string_bytes c.args.text.now)
    (codes "<section id=\"holdings\">\n<h2>Holdings</h2>\n" ∷ (when_html (page_in c.args.scope.now)) ∷ (held_inner c.args.rows.now c.args.totals.now.entries) ∷ [])
    (codes "</section>\n") (string_bytes c.push_held_inner.new.text) (string_bytes c.push_str-2.new.self)
    (_, c.in_ok-push_str.ensures.bytes, (_, c.in_ok-push_when.ensures, (_, c.in_ok-push_held_inner.ensures, refl)))
    (pushed c.push_str-2.result (string_bytes c.push_held_inner.new.text) (codes "</section>\n") (string_bytes c.push_str-2.new.self) c.push_str-2.ensures.bytes)

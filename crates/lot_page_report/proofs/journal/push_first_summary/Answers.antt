use Rattle.std.proofs.Common.{[], ◌∷◌, refl}
use Rattle.std.specs.Prelude.{codes}
use Rattle.std.specs.String.{string_bytes}
use Rattle.lot_cells.proofs.AppendLemmas.{appended, pushed}
use Rattle.lot_plot.specs.Month.{month_text}
use Rattle.lot_page_report.specs.Sections.{target_of}
use Rattle.lot_page_report.proofs.journal.push_first_summary.Goals as goal

pub returns : goal.returns
returns c =
    appended c.push_str-3.result (string_bytes c.args.text.now)
    (codes "<summary id=\"" ∷ (target_of c.args.month.0) ∷ codes "\">" ∷ (month_text c.args.month.0) ∷ [])
    (codes "</summary>\n<pre>") (string_bytes c.push_month.new.text) (string_bytes c.push_str-3.new.self)
    (_, c.in_ok-push_str.ensures.bytes, (_, c.in_ok-push_target.ensures, (_, c.in_ok-push_str-2.ensures.bytes, (_, c.in_ok-push_month.ensures, refl))))
    (pushed c.push_str-3.result (string_bytes c.push_month.new.text) (codes "</summary>\n<pre>") (string_bytes c.push_str-3.new.self) c.push_str-3.ensures.bytes)

use Rattle.std.proofs.Common.{[], ◌∷◌, refl}
use Rattle.std.specs.Prelude.{codes}
use Rattle.std.specs.String.{string_bytes}
use Rattle.lot_cells.proofs.AppendLemmas.{appended, pushed}
use Rattle.lot_page_report.specs.Counted.{days_in}
use Rattle.lot_page_report.specs.Text.{days_html, digest_html, links, name_html}
use Rattle.lot_page_report.proofs.head.push_header.Goals as goal

pub returns : goal.returns
returns c =
    appended c.push_str-5.result (string_bytes c.args.text.now)
    (codes "<header>\n<h1>" ∷ (name_html c.args.name.now) ∷ codes "</h1>\n<p>" ∷ (days_html (days_in c.args.days) c.args.within c.args.count) ∷ codes "</p>\n" ∷ (digest_html c.args.digest.now) ∷ links ∷ [])
    (codes "</header>\n") (string_bytes c.push_str-4.new.self) (string_bytes c.push_str-5.new.self)
    (_, c.in_ok-push_str.ensures.bytes, (_, c.in_ok-push_name.ensures, (_, c.in_ok-push_str-2.ensures.bytes, (_, c.in_ok-push_days.ensures, (_, c.in_ok-push_str-3.ensures.bytes, (_, c.in_ok-push_digest.ensures, (_, c.in_ok-push_str-4.ensures.bytes, refl)))))))
    (pushed c.push_str-5.result (string_bytes c.push_str-4.new.self) (codes "</header>\n") (string_bytes c.push_str-5.new.self) c.push_str-5.ensures.bytes)

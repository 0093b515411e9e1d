use Rattle.std.proofs.Common.{[], ◌∷◌, refl}
use Rattle.std.specs.Prelude.{codes}
use Rattle.std.specs.String.{string_bytes}
use Rattle.lot_cells.proofs.AppendLemmas.{appended, pushed}
use Rattle.lot_html.specs.Text.{escaped}
use Rattle.hex.specs.Hex.{encode_lower}
use Rattle.lot_page_report.proofs.head.push_some_digest.Goals as goal

pub returns : goal.returns
returns c =
    appended c.push_str-2.result (string_bytes c.args.text.now)
    (codes "<p>sha256 <code>" ∷ (escaped (encode_lower c.args.digest.now.sha256)) ∷ [])
    (codes "</code></p>\n") (string_bytes c.push_text.new.text) (string_bytes c.push_str-2.new.self)
    (_, c.in_ok-push_str.ensures.bytes, (_, rw (c.as_str.ensures.value, c.in_ok-digits.ensures) at c.in_ok-push_text.ensures, refl))
    (pushed c.push_str-2.result (string_bytes c.push_text.new.text) (codes "</code></p>\n") (string_bytes c.push_str-2.new.self) c.push_str-2.ensures.bytes)

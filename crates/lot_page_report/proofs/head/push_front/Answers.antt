use Rattle.std.proofs.Common.{[], ◌∷◌, refl}
use Rattle.std.specs.Prelude.{codes}
use Rattle.std.specs.String.{string_bytes}
use Rattle.lot_cells.proofs.AppendLemmas.{appended, pushed}
use Rattle.lot_html.specs.Text.{escaped}
use Rattle.base64.specs.Engines.{standard}
use Rattle.base64.specs.GeneralPurpose.{encode_of}
use Rattle.sha2.specs.Sha256.{sha256}
use Rattle.lot_page_report.specs.Text.{front_begin, style, viewport}
use Rattle.lot_page_report.proofs.head.push_front.Goals as goal

pub returns : goal.returns
returns c =
    appended c.push_str-5.result (string_bytes c.args.text.now)
    (front_begin ∷ (escaped (encode_of standard (sha256 style))) ∷ viewport ∷ (escaped c.args.name.now) ∷ codes "</title>\n<style>" ∷ style ∷ [])
    (codes "</style>\n</head>\n") (string_bytes c.push_str-4.new.self) (string_bytes c.push_str-5.new.self)
    (_, c.in_ok-push_str.ensures.bytes, (_, rw (c.as_str.ensures.value, c.in_ok-policy.ensures.text, c.digest-digest.ensures) at c.in_ok-push_text.ensures, (_, c.in_ok-push_str-2.ensures.bytes, (_, c.in_ok-push_text-2.ensures, (_, c.in_ok-push_str-3.ensures.bytes, (_, c.in_ok-push_str-4.ensures.bytes, refl))))))
    (pushed c.push_str-5.result (string_bytes c.push_str-4.new.self) (codes "</style>\n</head>\n") (string_bytes c.push_str-5.new.self) c.push_str-5.ensures.bytes)

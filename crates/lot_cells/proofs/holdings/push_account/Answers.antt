use Rattle.std.proofs.Common.{[], ◌∷◌, refl}
use Rattle.std.specs.Prelude.{codes}
use Rattle.std.specs.String.{string_bytes}
use Rattle.lot_html.specs.Html.{element_text}
use Rattle.lot_cells.proofs.AppendLemmas.{appended, pushed}
use Rattle.lot_cells.proofs.holdings.push_account.Goals as goal

pub returns : goal.returns
returns c =
    appended c.push_str-2.result (string_bytes c.args.text.now)
    (codes "<tr class=\"by\"><th colspan=\"11\" scope=\"rowgroup\">" ∷ element_text (codes "bdi") [] c.args.account.now ∷ [])
    (codes "</th></tr>\n") (string_bytes c.push_name.new.text) (string_bytes c.push_str-2.new.self)
    (_, c.in_ok-push_str.ensures.bytes, (_, rw c.as_str.ensures.value at c.in_ok-push_name.ensures, refl))
    (pushed c.push_str-2.result (string_bytes c.push_name.new.text) (codes "</th></tr>\n") (string_bytes c.push_str-2.new.self) c.push_str-2.ensures.bytes)

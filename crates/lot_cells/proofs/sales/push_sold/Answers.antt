use Rattle.std.proofs.Common.{[], ◌∷◌, refl}
use Rattle.std.specs.Prelude.{codes}
use Rattle.std.specs.String.{string_bytes}
use Rattle.lot_base.specs.Day.{day_text}
use Rattle.lot_html.specs.Text.{escaped}
use Rattle.lot_cells.proofs.AppendLemmas.{appended, pushed}
use Rattle.lot_cells.proofs.sales.push_sold.Goals as goal

pub returns : goal.returns
returns c =
    appended c.push_str-3.result (string_bytes c.args.text.now)
    (codes "<tr><td><a href=\"#" ∷ escaped c.args.target.now ∷ codes "\">" ∷ escaped (day_text c.args.day) ∷ []) (codes "</a></td>")
    (string_bytes c.push_text-2.new.text) (string_bytes c.push_str-3.new.self)
    (_, c.in_ok-push_str.ensures.bytes, (_, c.in_ok-push_text.ensures, (_, c.in_ok-push_str-2.ensures.bytes, (_, rw (c.as_str.ensures.value, c.in_ok-sold.ensures) at c.in_ok-push_text-2.ensures, refl))))
    (pushed c.push_str-3.result (string_bytes c.push_text-2.new.text) (codes "</a></td>") (string_bytes c.push_str-3.new.self) c.push_str-3.ensures.bytes)

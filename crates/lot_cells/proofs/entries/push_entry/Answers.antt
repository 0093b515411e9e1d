use Rattle.std.proofs.Common.{[], ◌∷◌, refl}
use Rattle.std.specs.Prelude.{codes, decimal}
use Rattle.std.specs.String.{string_bytes}
use Rattle.lot_html.specs.Html.{element_text}
use Rattle.lot_html.specs.Text.{escaped}
use Rattle.lot_cells.specs.Entry.{command_html, outside}
use Rattle.lot_cells.proofs.AppendLemmas.{appended}
use Rattle.lot_cells.proofs.entries.push_entry.Goals as goal

pub returns : goal.returns
returns c =
    appended c.push_command.result (string_bytes c.args.text.now)
    (codes "<i>; entry " ∷ decimal c.args.entry.now.number ∷ codes " key " ∷ escaped c.args.entry.now.key.source ∷ codes " " ∷ element_text (codes "bdi") [] c.args.entry.now.key.name ∷ codes "</i>\n" ∷ [])
    (command_html outside (string_bytes c.args.entry.now.body)) (string_bytes c.push_str-4.new.self) (string_bytes c.push_command.new.text)
    (_, c.in_ok-push_str.ensures.bytes, (_, c.in_ok-push_count.ensures, (_, c.in_ok-push_str-2.ensures.bytes, (_, rw c.as_str.ensures.value at c.in_ok-push_text.ensures, (_, c.in_ok-push_str-3.ensures.bytes, (_, rw c.as_str-2.ensures.value at c.in_ok-push_name.ensures, (_, c.in_ok-push_str-4.ensures.bytes, refl)))))))
    (rw c.as_str-3.ensures.value at c.push_command.ensures)

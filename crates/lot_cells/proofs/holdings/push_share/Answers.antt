use Rattle.std.proofs.Common.{[], ◌∷◌, refl}
use Rattle.std.specs.Prelude.{codes}
use Rattle.std.specs.String.{string_bytes}
use Rattle.lot_plot.specs.Plot.{percent_text}
use Rattle.lot_cells.proofs.AppendLemmas.{appended, pushed}
use Rattle.lot_cells.proofs.holdings.push_share.Goals as goal

pub returns : goal.returns
returns c =
    appended c.push_str-4.result (string_bytes c.args.text.now)
    (codes "<td class=\"n\"><data value=\"" ∷ percent_text c.args.share ∷ codes "\">" ∷ percent_text c.args.share ∷ codes "%</data><svg class=\"share\" aria-hidden=\"true\"><rect width=\"" ∷ percent_text c.args.share ∷ [])
    (codes "%\" height=\"100%\"></rect></svg></td>") (string_bytes c.push_percent-3.new.text) (string_bytes c.push_str-4.new.self)
    (_, c.in_ok-push_str.ensures.bytes, (_, c.in_ok-push_percent.ensures, (_, c.in_ok-push_str-2.ensures.bytes, (_, c.in_ok-push_percent-2.ensures, (_, c.in_ok-push_str-3.ensures.bytes, (_, c.in_ok-push_percent-3.ensures, refl))))))
    (pushed c.push_str-4.result (string_bytes c.push_percent-3.new.text) (codes "%\" height=\"100%\"></rect></svg></td>") (string_bytes c.push_str-4.new.self) c.push_str-4.ensures.bytes)

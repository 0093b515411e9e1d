use Rattle.std.proofs.Common.{[], ◌∷◌, refl}
use Rattle.std.specs.Prelude.{codes}
use Rattle.std.specs.String.{string_bytes}
use Rattle.lot_cells.proofs.AppendLemmas.{appended, pushed}
use Rattle.lot_page_report.proofs.sums.push_some_foot.Goals as goal

pub returns : goal.returns
returns c =
    appended c.push_str-3.result (string_bytes c.args.text.now)
    (codes "<tfoot>\n" ∷ c.args.rows.now ∷ [])
    (codes "</tfoot>\n") (string_bytes c.push_str-2.new.self) (string_bytes c.push_str-3.new.self)
    (_, c.in_ok-push_str.ensures.bytes, (_, c.in_ok-push_str-2.ensures.bytes, refl))
    (pushed c.push_str-3.result (string_bytes c.push_str-2.new.self) (codes "</tfoot>\n") (string_bytes c.push_str-3.new.self) c.push_str-3.ensures.bytes)

use Rattle.std.proofs.Common.{[], ◌∷◌, refl}
use Rattle.std.specs.Prelude.{codes}
use Rattle.std.specs.String.{string_bytes}
use Rattle.lot_cells.proofs.AppendLemmas.{appended, pushed}
use Rattle.std.proofs.Common.{map}
use Rattle.lot_tally.specs.Table.{shown}
use Rattle.lot_page_report.specs.Sections.{commodities_inner}
use Rattle.lot_page_report.proofs.sums.push_commodities.Goals as goal

pub returns : goal.returns
returns c =
    appended c.push_str-2.result (string_bytes c.args.text.now)
    (codes "<section id=\"commodities\">\n<h2>Gains by commodity</h2>\n" ∷ (commodities_inner (map shown c.args.rows.now.entries) (map shown c.args.currencies.now.entries)) ∷ [])
    (codes "</section>\n") (string_bytes c.push_commodities_inner.new.text) (string_bytes c.push_str-2.new.self)
    (_, c.in_ok-push_str.ensures.bytes, (_, c.in_ok-push_commodities_inner.ensures, refl))
    (pushed c.push_str-2.result (string_bytes c.push_commodities_inner.new.text) (codes "</section>\n") (string_bytes c.push_str-2.new.self) c.push_str-2.ensures.bytes)

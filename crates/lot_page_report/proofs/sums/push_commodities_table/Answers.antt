use Rattle.std.proofs.Common.{[], ◌∷◌, refl}
use Rattle.std.specs.Prelude.{codes}
use Rattle.std.specs.String.{string_bytes}
use Rattle.lot_cells.proofs.AppendLemmas.{appended, pushed}
use Rattle.std.proofs.Common.{map}
use Rattle.std.specs.List.{flat_map}
use Rattle.lot_tally.specs.Table.{shown}
use Rattle.lot_page_report.specs.Sections.{commodity_row, foot_html, total_row}
use Rattle.lot_page_report.specs.Text.{commodities_head}
use Rattle.lot_page_report.proofs.sums.push_commodities_table.Goals as goal

pub returns : goal.returns
returns c =
    appended c.push_str-3.result (string_bytes c.args.text.now)
    (commodities_head ∷ (flat_map commodity_row (map shown c.args.rows.now.entries)) ∷ codes "</tbody>\n" ∷ (foot_html (flat_map total_row (map shown c.args.currencies.now.entries))) ∷ [])
    (codes "</table>\n</div>\n") (string_bytes c.push_foot.new.text) (string_bytes c.push_str-3.new.self)
    (_, c.in_ok-push_str.ensures.bytes, (_, c.in_ok-push_commodity_rows.ensures, (_, c.in_ok-push_str-2.ensures.bytes, (_, rw (c.as_str.ensures.value, c.in_ok-totals.ensures) at c.in_ok-push_foot.ensures, refl))))
    (pushed c.push_str-3.result (string_bytes c.push_foot.new.text) (codes "</table>\n</div>\n") (string_bytes c.push_str-3.new.self) c.push_str-3.ensures.bytes)
